-- THE LAW of the chains: one row more, and the rows that a chain gives. Assumes nothing.
use Rattle.std.specs.Prelude.{◌≡◌, refl, Bool, true, false, List, ◌∷◌, ℕ, zero, suc, ◌+◌, ◌%◌, ◌≤◌, ◌<◌, eqb, length, get_or}
use Rattle.std.proofs.Common.{sym, ap, ◌∙◌, add-one, mod-lt, arith, eqb-true, eq-eqb}
use Rattle.std.specs.Prelude.{Option, Some, None}
use Rattle.std.proofs.lemmas.Bool.{eqb-false}
use Rattle.definition.specs.Base.{keep, find}
use Rattle.index.specs.declared.Table.{Table}
use Rattle.index.specs.Chains.{next_at, place_at, zeros, added, row_below, first_of, next_of, place_of, chain, chain_of}
use Rattle.index.specs.Last.{last_below, down, word_of, last_none, down_none, down_yes, down_no}
use Rattle.index.proofs.Last.{last_yes, last_no, last_in, last_same, find_down}
use Rattle.index.specs.Steps.{length_zeros, zeros_are}
use Rattle.index.specs.Law.{Fits, in_bucket, Indexed, length_added, added_other, added_head, added_next, added_place, row_word, chain_none, chain_at}

-- ---- one row more

module _ {t : Table} {f g : ℕ → ℕ} {n : ℕ} {w : List ℕ} (x : Indexed t f g n w) (few : n < t.rows) where
  abbrev more : List ℕ
  more = added w t n (f n) (g n)

  inside : f n % t.rows < t.rows
  inside = mod-lt (f n) x.fits.some

  head_at : (b : ℕ) (e : Bool) → in_bucket t f b n ≡ e → b < t.rows → get_or more (t.at + b) 0 ≡ word_of (last_below (in_bucket t f b) (suc n))
  head_at b true e h =
      let z : f n % t.rows ≡ b = eqb-true (f n % t.rows) b e in
      ap (λ (b : ℕ). get_or more (t.at + b) 0) (sym z)
      ∙ added_head t w n (f n) (g n) few x.fits.room
      ∙ ap word_of (sym (last_yes (in_bucket t f b) n e))
  head_at b false e h =
      let z : f n % t.rows ≡ b → ⊥ = eqb-false (f n % t.rows) b e in
      added_other t w n (f n) (g n) few (t.at + b) (λ q. omega arith) (λ q. z (omega arith)) (λ q. omega arith)
      ∙ x.chains.head b h
      ∙ ap word_of (sym (last_no (in_bucket t f b) n e))

  next_at_lem : (r : ℕ) (e : Bool) → eqb r n ≡ e → r < suc n → get_or more (next_at t r) 0 ≡ word_of (last_below (in_bucket t f (f r % t.rows)) r)
  next_at_lem r true e h =
      let z : r ≡ n = eqb-true r n e in
      rw z (added_next t w n (f n) (g n) few x.fits.room ∙ x.chains.head (f n % t.rows) inside)
  next_at_lem r false e h =
      let z : r ≡ n → ⊥ = eqb-false r n e in
      added_other t w n (f n) (g n) few (next_at t r) (λ q. z (omega arith)) (λ q. omega (arith, inside)) (λ q. omega arith)
      ∙ x.chains.next r (omega (arith, z))

  place_at_lem : (r : ℕ) (e : Bool) → eqb r n ≡ e → r < suc n → place_of more t r ≡ g r
  place_at_lem r true e h =
      let z : r ≡ n = eqb-true r n e in
      rw z (added_place t w n (f n) (g n) few x.fits.room)
  place_at_lem r false e h =
      let z : r ≡ n → ⊥ = eqb-false r n e in
      added_other t w n (f n) (g n) few (place_at t r) (λ q. omega arith) (λ q. omega (arith, inside)) (λ q. z (omega arith))
      ∙ x.places r (omega (arith, z))

  pub indexed_put : Indexed t f g (suc n) more
  indexed_put =
      record {
        fits = rw (length_added w t n (f n) (g n)) x.fits;
        few = omega arith;
        chains = record { head = λ b h. head_at b (in_bucket t f b n) refl h; next = λ r h. next_at_lem r (eqb r n) refl h };
        places = λ r h. place_at_lem r (eqb r n) refl h;
      }

-- the step of a loop
pub indexed_by : {t : Table} {f g : ℕ → ℕ} {i h place : ℕ} {w w' : List ℕ} → Indexed t f g i w → i < t.rows → h ≡ f i → place ≡ g i → w' ≡ added w t i h place
    → Indexed t f g (i + 1) w'
indexed_by {t} {f} {g} {i} {h} {w = w} x few p q s = rw (s, p, q, add-one i) (indexed_put x few)

-- ---- empty chains

pub indexed_none : {t : Table} (f g : ℕ → ℕ) (w : List ℕ) → Fits t (length w) → Indexed t f g 0 (zeros w t.at t.rows)
indexed_none {t} f g w fits =
    record {
      fits = rw (length_zeros w t.at t.rows) fits;
      few = omega arith;
      chains = record {
        head = λ b h. zeros_are w t.at t.rows b h ∙ ap word_of (sym (last_none (in_bucket t f b)));
        next = λ r h. absurd (omega arith);
      };
      places = λ r h. absurd (omega arith);
    }

-- ---- hashes and places that agree on the rows

pub indexed_same : {t : Table} {f g f' g' : ℕ → ℕ} {n : ℕ} {w : List ℕ} → Indexed t f g n w → ((r : ℕ) → r < n → f r ≡ f' r) → ((r : ℕ) → r < n → g r ≡ g' r)
    → Indexed t f' g' n w
indexed_same {t} {f} {g} {f'} {g'} {n} {w} x p q =
    record {
      fits = x.fits;
      few = x.few;
      chains = record { head = λ b h. x.chains.head b h ∙ ap word_of (lasts b n (omega arith)); next = next };
      places = λ r h. x.places r h ∙ q r h;
    }
  where
    lasts : (b m : ℕ) → m ≤ n → last_below (in_bucket t f b) m ≡ last_below (in_bucket t f' b) m
    lasts b m k = last_same (in_bucket t f b) (in_bucket t f' b) m (λ r h. ap (λ (v : ℕ). eqb (v % t.rows) b) (p r (omega arith)))

    next : (r : ℕ) → r < n → get_or w (next_at t r) 0 ≡ word_of (last_below (in_bucket t f' (f' r % t.rows)) r)
    next r h =
        x.chains.next r h
        ∙ ap word_of (lasts (f r % t.rows) r (omega arith))
        ∙ ap (λ (v : ℕ). word_of (last_below (in_bucket t f' (v % t.rows)) r)) (p r h)

-- ---- the chain of a bucket

pub last_small : (p : ℕ → Bool) (n : ℕ) → word_of (last_below p n) ≤ n
last_small p n = go (last_below p n) refl
  where
    go : (o : Option ℕ) → last_below p n ≡ o → word_of o ≤ n
    go None e = omega arith
    go (Some r) e = omega (arith, (last_in p n e).0)

module _ {t : Table} {f g : ℕ → ℕ} {n : ℕ} {w : List ℕ} (x : Indexed t f g n w) where
  pub first_is : (h : ℕ) → first_of w t h ≡ last_below (in_bucket t f (h % t.rows)) n
  first_is h =
      let q : ℕ → Bool = in_bucket t f (h % t.rows) in
      ap (row_below t.rows) (x.chains.head (h % t.rows) (mod-lt h x.fits.some))
      ∙ row_word t.rows (last_below q n) (omega (arith, last_small q n, x.few))

  pub next_is : (r : ℕ) → r < n → next_of w t r ≡ last_below (in_bucket t f (f r % t.rows)) r
  next_is r h =
      let q : ℕ → Bool = in_bucket t f (f r % t.rows) in
      ap (row_below r) (x.chains.next r h) ∙ row_word r (last_below q r) (last_small q r)

  chain_from : (b m : ℕ) → m ≤ n → chain w t (last_below (in_bucket t f b) m) ≡ keep (in_bucket t f b) (down m)
  chain_from b zero h = ap (chain w t) (last_none (in_bucket t f b)) ∙ chain_none w t ∙ sym (down_none (in_bucket t f b))
  chain_from b (suc m) h = go (in_bucket t f b m) refl (chain_from b m (omega arith))
    where
      go : (e : Bool) → in_bucket t f b m ≡ e → chain w t (last_below (in_bucket t f b) m) ≡ keep (in_bucket t f b) (down m)
          → chain w t (last_below (in_bucket t f b) (suc m)) ≡ keep (in_bucket t f b) (down (suc m))
      go true e before =
          let z : f m % t.rows ≡ b = eqb-true (f m % t.rows) b e in
          ap (chain w t) (last_yes (in_bucket t f b) m e)
          ∙ chain_at w t m
          ∙ ap (λ (a : Option ℕ). m ∷ chain w t a) (next_is m (omega arith) ∙ ap (λ (b : ℕ). last_below (in_bucket t f b) m) z)
          ∙ ap (λ (l : List ℕ). m ∷ l) before
          ∙ sym (down_yes (in_bucket t f b) m e)
      go false e before = ap (chain w t) (last_no (in_bucket t f b) m e) ∙ before ∙ sym (down_no (in_bucket t f b) m e)

  -- THE LAW: the chain of a hash is the rows of its bucket, from the last to the first
  pub chain_is : (h : ℕ) → chain_of w t h ≡ keep (in_bucket t f (h % t.rows)) (down n)
  chain_is h = ap (chain w t) (first_is h) ∙ chain_from (h % t.rows) n (omega arith)

  find_bucket : (p : ℕ → Bool) (m h : ℕ) → ((r : ℕ) → r < m → p r ≡ true → f r ≡ h) → find p (keep (in_bucket t f (h % t.rows)) (down m)) ≡ last_below p m
  find_bucket p m h only =
      find_down p (in_bucket t f (h % t.rows)) m (λ r k e. eq-eqb (f r % t.rows) (h % t.rows) (ap (λ (x : ℕ). x % t.rows) (only r k e)))

  -- the first row of the chain that passes a test, which no row with another hash passes, is the last of all rows that passes it
  pub find_chain : (p : ℕ → Bool) (h : ℕ) → ((r : ℕ) → r < n → p r ≡ true → f r ≡ h) → find p (chain_of w t h) ≡ last_below p n
  find_chain p h only = ap (find p) (chain_is h) ∙ find_bucket p n h only

  -- and behind a row, the last row before it that passes it
  pub find_next : (p : ℕ → Bool) (r : ℕ) → r < n → ((q : ℕ) → q < r → p q ≡ true → f q ≡ f r) → find p (chain w t (next_of w t r)) ≡ last_below p r
  find_next p r h only = ap (λ (a : Option ℕ). find p (chain w t a)) (next_is r h) ∙ ap (find p) (chain_from (f r % t.rows) r (omega arith)) ∙ find_bucket p r (f r) only

  -- the same where another test is made, which agrees on the rows
  pub find_like : (c p : ℕ → Bool) (h : ℕ) → ((r : ℕ) → r < n → c r ≡ p r) → ((r : ℕ) → r < n → p r ≡ true → f r ≡ h)
      → find c (chain_of w t h) ≡ last_below p n
  find_like c p h agree only = find_chain c h (λ r k e. only r k (sym (agree r k) ∙ e)) ∙ last_same c p n agree

  -- and where the test is made by the place
  pub find_by_place : (q p : ℕ → Bool) (h : ℕ) → ((r : ℕ) → r < n → q (g r) ≡ p r) → ((r : ℕ) → r < n → p r ≡ true → f r ≡ h)
      → find (λ r. q (place_of w t r)) (chain_of w t h) ≡ last_below p n
  find_by_place q p h agree only = find_like (λ r. q (place_of w t r)) p h (λ r k. ap q (x.places r k) ∙ agree r k) only
