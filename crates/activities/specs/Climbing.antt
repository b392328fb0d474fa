-- Climbing: where the parents of the rows below are the last rows before them of a lower level, climbing from the row before finds the last row of a
-- lower level. Assumes nothing.
use Rattle.std.specs.Prelude.{ℕ, zero, suc, ◌+◌, ◌-◌, ◌*◌, ◌≤◌, ◌<◌, ◌≡◌, refl, Bool, true, false, List, map, ltb, length, get_or, set, take}
use Rattle.std.proofs.Math.Decide.{dec_lt}
use Rattle.std.proofs.Common.{arith, ltb-false, lt-ltb, le-ltb, sym, ap, ◌∙◌, length-set, length-take-le, get_or-take, get_or-set_same, get_or-set_other}
use Rattle.std.specs.Prelude.{Option}
use Rattle.std.proofs.lemmas.List.{length-map}
use Rattle.std.proofs.Math.ListN.{get_or-map}
use Rattle.definition.specs.Task.{level_of, kept_tasks, parent_of}
use Rattle.definition.specs.Text.{Text}
use Rattle.definition.specs.Tree.{Element}
use Rattle.index.proofs.Law.{last_small as word_below}
use Rattle.index.specs.Below.{SameBelow}
use Rattle.index.specs.Frame.{SameIn}
use Rattle.index.specs.declared.Table.{Table}
use Rattle.index.specs.Last.{last_below, word_of, last_none, rows_of}
use Rattle.index.proofs.Last.{last_yes, last_no, last_here, last_on, last_same}
use Rattle.index.specs.With.{one_more}
use Rattle.rows.specs.Tables.{no_element}
use Rattle.tree.specs.Place.{element_at}
use Rattle.activities.specs.Parents.{place_at, parent_at, end_of, noted, lower, level_in, Climbs, task_at, level_at, Held}
use Rattle.activities.specs.declared.parents.Columns.{Columns}

-- ---- the law

-- the last row below l is among those up to the last row below h, where h is not lower than l
climb_skip : (f : ℕ → ℕ) (l h : ℕ) → l ≤ h → (n : ℕ) → last_below (lower f l) n ≡ last_below (lower f l) (word_of (last_below (lower f h) n))
climb_skip f l h k zero = ap (λ (o : Option ℕ). last_below (lower f l) (word_of o)) (sym (last_none (lower f h)))
climb_skip f l h k (suc n) = by (ltb (f n) h) refl (climb_skip f l h k n)
  where
    by : (b : Bool) → ltb (f n) h ≡ b → last_below (lower f l) n ≡ last_below (lower f l) (word_of (last_below (lower f h) n))
        → last_below (lower f l) (suc n) ≡ last_below (lower f l) (word_of (last_below (lower f h) (suc n)))
    by true e before = ap (λ (o : Option ℕ). last_below (lower f l) (word_of o)) (sym (last_yes (lower f h) n e))
    by false e before =
        let z : l ≤ f n = omega (arith, ltb-false (f n) h e) in
        last_no (lower f l) n (le-ltb (f n) l z)
        ∙ before
        ∙ ap (λ (o : Option ℕ). last_below (lower f l) (word_of o)) (sym (last_no (lower f h) n e))

-- ---- the loop: the last row is among those below k

pub record Climbing (s : Text) (first : ℕ) (w : List ℕ) (level row k : ℕ) : Type 0 where
  pub few : k ≤ row
  pub is : last_below (lower (level_in s first w) level) row ≡ last_below (lower (level_in s first w) level) k

pub climb_begin : (s : Text) (first : ℕ) (w : List ℕ) (level row : ℕ) → Climbing s first w level row row
climb_begin s first w level row = record { few = omega arith; is = refl }

module _ {s : Text} {first : ℕ} {w : List ℕ} {level row k : ℕ} (h : Climbing s first w level row k) where
  pub climb_end : k ≤ 0 → 0 ≡ word_of (last_below (lower (level_in s first w) level) row)
  climb_end z =
      let e : k ≡ 0 = omega arith in
      sym (ap (λ (o : Option ℕ). word_of o) (h.is ∙ ap (last_below (lower (level_in s first w) level)) e ∙ last_none (lower (level_in s first w) level)))

  module _ (some_left : 0 < k) {l : ℕ} (e : l ≡ level_in s first w (k - 1)) where
    pub climb_here : l < level → k ≡ word_of (last_below (lower (level_in s first w) level) row)
    climb_here i =
        let z : suc (k - 1) ≡ k = omega arith in
        let y : level_in s first w (k - 1) < level = omega (arith, e) in
        sym (ap (λ (o : Option ℕ). word_of o) (h.is ∙ last_here (lower (level_in s first w) level) k some_left (lt-ltb _ level y)) ∙ z)

    module _ (i : level ≤ l) (c : Climbs s first row w) {k' : ℕ} (j : k' ≡ get_or w (parent_at first (k - 1)) 0) where
      next_is : k' ≡ word_of (last_below (lower (level_in s first w) (level_in s first w (k - 1))) (k - 1))
      next_is = j ∙ c.parents (k - 1) (omega (arith, h.few))

      pub climb_less : k' < k
      climb_less = omega (arith, next_is, word_below (lower (level_in s first w) (level_in s first w (k - 1))) (k - 1))

      pub climb_next : Climbing s first w level row k'
      climb_next =
          let z : level ≤ level_in s first w (k - 1) = omega (arith, e) in
          record {
            few = omega (arith, climb_less, h.few);
            is =
                h.is
                ∙ last_on (lower (level_in s first w) level) k some_left (le-ltb (level_in s first w (k - 1)) level z)
                ∙ climb_skip (level_in s first w) level (level_in s first w (k - 1)) z (k - 1)
                ∙ ap (last_below (lower (level_in s first w) level)) (sym next_is);
          }

-- ---- the kept tasks

-- the definition's parent
pub parents_are : (root : Element) (row l : ℕ) → row ≤ length (kept_tasks root) → parent_of (map level_of (take row (kept_tasks root))) l ≡ last_below (lower (level_at root) l) row
unfolding parent_of
parents_are root row l h =
    let ts = kept_tasks root in
    let n : length (map level_of (take row ts)) ≡ row = length-map (take row ts) level_of ∙ length-take-le row ts h in
    rows_of (λ (x : ℕ × ℕ). ltb x.1 l) (level_of no_element) (lower (level_at root) l) (map level_of (take row ts))
    (λ r k. ap (λ (m : ℕ). ltb m l) (sym (get_or-map level_of (take row ts) r no_element ∙ ap level_of (get_or-take row ts r no_element (omega arith)))))
    ∙ ap (last_below (lower (level_at root) l)) n

module _ {s : Text} {root : Element} {first : ℕ} {n : ℕ} {w : List ℕ} (h : Held s root first n w) where
  level_is : (r : ℕ) → r < n → level_in s first w r ≡ level_at root r
  level_is r k = ap level_of (h.stands r k)

  pub held_lower : (l m : ℕ) → m ≤ n → last_below (lower (level_in s first w) l) m ≡ last_below (lower (level_at root) l) m
  held_lower l m k = last_same (lower (level_in s first w) l) (lower (level_at root) l) m (λ r j. ap (λ (v : ℕ). ltb v l) (level_is r (omega arith)))

  pub held_climbs : first + 2 * n ≤ length w → Climbs s first n w
  held_climbs room = record {
    room = room;
    parents = λ r k.
        h.parents r k
        ∙ ap (λ (v : ℕ). word_of (last_below (lower (level_at root) v) r)) (sym (level_is r k))
        ∙ ap (λ (o : Option ℕ). word_of o) (sym (held_lower (level_in s first w r) r (omega arith)));
  }

  -- what is stored behind them stays out of them
  pub held_kept : {m : ℕ} → first + 2 * n ≤ m → {w' : List ℕ} → SameBelow m w w' → Held s root first n w'
  held_kept k x = record {
    stands = λ r j. ap (element_at s) (x.words (place_at first r) (omega arith)) ∙ h.stands r j;
    parents = λ r j. x.words (parent_at first r) (omega arith) ∙ h.parents r j;
  }

-- ---- a row is noted

module _ (own : Columns) (row at : ℕ) (o : Option ℕ) (w : List ℕ) where
  pub noted_not : own.rows ≤ row → noted own row at o w ≡ w
  unfolding noted
  noted_not h = rw (le-ltb row own.rows h)

  pub noted_is : row < own.rows → noted own row at o w ≡ set (set w (place_at own.at row) at) (parent_at own.at row) (word_of o)
  unfolding noted
  noted_is h = rw (lt-ltb row own.rows h)

  -- the other words stay
  noted_other : (j : ℕ) → (row < own.rows → j ≡ place_at own.at row → ⊥) → (row < own.rows → j ≡ parent_at own.at row → ⊥) → get_or (noted own row at o w) j 0 ≡ get_or w j 0
  noted_other j a b = by (dec_lt row own.rows)
    where
      by : Dec (row < own.rows) → get_or (noted own row at o w) j 0 ≡ get_or w j 0
      by (yes h) =
          ap (λ (l : List ℕ). get_or l j 0) (noted_is h)
          ∙ get_or-set_other (set w (place_at own.at row) at) (parent_at own.at row) j (word_of o) 0 (b h)
          ∙ get_or-set_other w (place_at own.at row) j at 0 (a h)
      by (no h) = ap (λ (l : List ℕ). get_or l j 0) (noted_not (omega arith))

  noted_long : length (noted own row at o w) ≡ length w
  noted_long = by (dec_lt row own.rows)
    where
      by : Dec (row < own.rows) → length (noted own row at o w) ≡ length w
      by (yes h) = ap length (noted_is h) ∙ length-set (set w (place_at own.at row) at) (parent_at own.at row) (word_of o) ∙ length-set w (place_at own.at row) at
      by (no h) = ap length (noted_not (omega arith))

  pub noted_below : {n : ℕ} → (0 < own.rows → n ≤ own.at) → SameBelow n w (noted own row at o w)
  noted_below {n} h = record {
    long = noted_long;
    words = λ j k. noted_other j (λ i e. let z = h (omega arith) in omega arith) (λ i e. let z = h (omega arith) in omega arith);
  }

  pub noted_in : {t : Table} → end_of own ≤ t.at → SameIn t w (noted own row at o w)
  noted_in h = record { long = noted_long; words = λ j a b. noted_other j (λ i e. omega arith) (λ i e. omega arith) }

  module _ {s : Text} {root : Element} (few : row < own.rows) (room : end_of own ≤ length w) (h : Held s root own.at row w) (e : element_at s at ≡ task_at root row)
      (i : o ≡ last_below (lower (level_at root) (level_at root row)) row) where
    at_place : get_or (noted own row at o w) (place_at own.at row) 0 ≡ at
    at_place =
        ap (λ (l : List ℕ). get_or l (place_at own.at row) 0) (noted_is few)
        ∙ get_or-set_other (set w (place_at own.at row) at) (parent_at own.at row) (place_at own.at row) (word_of o) 0 (λ z. omega arith)
        ∙ get_or-set_same w (place_at own.at row) at 0 (omega arith)

    at_parent : get_or (noted own row at o w) (parent_at own.at row) 0 ≡ word_of o
    at_parent =
        ap (λ (l : List ℕ). get_or l (parent_at own.at row) 0) (noted_is few)
        ∙ get_or-set_same (set w (place_at own.at row) at) (parent_at own.at row) (word_of o) 0 (omega (arith, length-set w (place_at own.at row) at))

    pub held_more : Held s root own.at (row + 1) (noted own row at o w)
    held_more = record {
      stands = λ r k.
          one_more (λ r. element_at s (get_or (noted own row at o w) (place_at own.at r) 0) ≡ task_at root r) row
          (λ r j. ap (element_at s) (noted_other (place_at own.at r) (λ a z. omega arith) (λ a z. omega arith)) ∙ h.stands r j)
          (ap (element_at s) at_place ∙ e) r (omega arith);
      parents = λ r k.
          one_more (λ r. get_or (noted own row at o w) (parent_at own.at r) 0 ≡ word_of (last_below (lower (level_at root) (level_at root r)) r)) row
          (λ r j. noted_other (parent_at own.at r) (λ a z. omega arith) (λ a z. omega arith) ∙ h.parents r j)
          (at_parent ∙ ap (λ (o : Option ℕ). word_of o) i) r (omega arith);
    }
