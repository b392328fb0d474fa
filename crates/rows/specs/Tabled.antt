-- What a table in lent words says: where it was made of a list, the rows and elements of the definition; and nothing but its own words counts. Assumes
-- nothing.
use Rattle.std.specs.Prelude.{if◌then◌else◌, ◌≡◌, ℕ, suc, ◌+◌, ◌%◌, ◌^◌, ◌<◌, ◌≤◌, max, Bool, true, false, ◌&&◌, ltb, List, [], ◌∷◌, length, nat_lt, slice_index_or}
use Rattle.std.proofs.Common.{mod-eq_of_lt, zero-add, arith, sym, ◌∙◌, ltb-true, lt-ltb}
use Rattle.std.proofs.Math.Path.{refl, ap, fun_ext}
use Rattle.std.specs.Prelude.{Option, Some, None}
use Rattle.definition.specs.Base.{◌>>=◌, ◌or_else◌, when, keep, first, find, find_last, numbered, same}
use Rattle.definition.specs.Text.{Text}
use Rattle.definition.specs.Tree.{Element}
use Rattle.definition.specs.Task.{kept_tasks, row_of}
use Rattle.definition.specs.Resource.{cost_resources}
use Rattle.laws.specs.FitTrees.{tasks_most}
use Rattle.index.specs.declared.Table.{Table}
use Rattle.index.specs.Chains.{table_of, chain_of, place_of, end_in}
use Rattle.index.specs.Last.{rows_of}
use Rattle.index.proofs.Last.{last_in}
use Rattle.index.specs.Law.{table_placed}
use Rattle.index.specs.Frame.{SameIn, same_refl, apart_before, place_same, find_agree, find_same}
use Rattle.index.proofs.Texts.{text_by_place}
use Rattle.tree.specs.Place.{element_at}
use Rattle.rows.specs.Rows.{has_uid}
use Rattle.rows.specs.Turns.{keep_head}
use Rattle.rows.specs.Tables.{listed, uid_of, row_in32, sought_in, row_in, cost_in, no_element, nth, made_for, Tabled, TabledIn, Makes}
use Rattle.rows.specs.declared.table.Listed.{Listed}

-- ---- the rows of the definition

-- the last of a list that passes, from its row
last_by_row : {A : Type 0} (p : A → Bool) (d : A) (f : ℕ → A) (a : ℕ) (l : List A) → ((r : ℕ) → r < length l → f (a + r) ≡ slice_index_or l r d)
    → (find_last (λ (y : ℕ × A). p y.1) (numbered a l) >>= λ y. Some (f y.0)) ≡ find_last p l
unfolding find_last numbered
last_by_row p d f a [] h = refl
last_by_row {A} p d f a (x ∷ l) h =
    let z : a + 0 ≡ a = omega arith in
    let k : f a ≡ x = rw z at (h 0 (omega arith)) in
    split (find_last (λ (y : ℕ × A). p y.1) (numbered (suc a) l)) (p x) k ∙ ap (λ o. o or_else when (p x) x) (last_by_row p d f (suc a) l later)
  where
    split : (o : Option (ℕ × A)) (b : Bool) → f a ≡ x → ((o or_else when b (a, x)) >>= λ y. Some (f y.0)) ≡ ((o >>= λ y. Some (f y.0)) or_else when b x)
    split None true e = ap Some e
    split None false e = refl
    split (Some y) b e = refl

    later : (r : ℕ) → r < length l → f (suc a + r) ≡ slice_index_or l r d
    later r k = let z : a + suc r ≡ suc a + r = omega arith in rw z at (h (suc r) (omega arith))

-- a row is below the number of elements
row_below : (es : List Element) (u : Text) {r : ℕ} → row_of es u ≡ Some r → r < length es
unfolding row_of
row_below es u {r} e =
    let p : ℕ → Bool = λ r. has_uid u (slice_index_or es r no_element) in
    (last_in p (length es) (sym (rows_of (λ (y : ℕ × Element). has_uid u y.1) no_element p es (λ r h. refl)) ∙ e)).0

-- so that 32 bits hold it
within_32 : (es : List Element) (u : Text) → length es ≤ 2 ^ 32 → (row_of es u >>= λ n. Some (n % 2 ^ 32)) ≡ row_of es u
within_32 es u h = go (row_of es u) refl
  where
    go : (o : Option ℕ) → row_of es u ≡ o → (o >>= λ n. Some (n % 2 ^ 32)) ≡ o
    go None e = refl
    go (Some r) e = let k : r < 2 ^ 32 = omega (arith, row_below es u e) in ap Some (mod-eq_of_lt k)

pub tasks_32 : (root : Element) (u : Text) → row_in32 Listed.Tasks root u ≡ row_of (kept_tasks root) u
tasks_32 root u = within_32 (kept_tasks root) u (omega (arith, tasks_most root))

module _ {s : Text} {root : Element} {l : Listed} {t : Table} {w w' : List ℕ} (x : Tabled s root l t w w') where
  sought_is : (u : Text) → sought_in s w' t u ≡ row_of (listed l root) u
  unfolding row_of
  sought_is u =
      text_by_place uid_of no_element (listed l root) x.indexed (λ p. uid_of (element_at s p)) u (λ r h. ap uid_of (x.stands r h))

  tabled_row : (u : Text) → sought_in s w' t u ≡ row_in32 l root u
  tabled_row u = sought_is u ∙ sym (within_32 (listed l root) u (omega (arith, x.small)))

  -- the element of the row that is found
  at_place : (r : ℕ) → r < length (listed l root) → element_at s (place_of w' t (0 + r)) ≡ nth l root r
  at_place r h = rw (zero-add r) (ap (element_at s) (x.indexed.places r h) ∙ x.stands r h)

  tabled_last : (u : Text) → (sought_in s w' t u >>= λ r. Some (element_at s (place_of w' t r))) ≡ find_last (has_uid u) (listed l root)
  unfolding row_of
  tabled_last u =
      ap (λ o. o >>= λ r. Some (element_at s (place_of w' t r))) (sought_is u)
      ∙ then_then (find_last (λ (y : ℕ × Element). has_uid u y.1) (numbered 0 (listed l root)))
      ∙ last_by_row (has_uid u) no_element (λ r. element_at s (place_of w' t r)) 0 (listed l root) at_place
    where
      then_then : (o : Option (ℕ × Element))
          → ((o >>= λ y. Some y.0) >>= λ r. Some (element_at s (place_of w' t r))) ≡ (o >>= λ y. Some (element_at s (place_of w' t y.0)))
      then_then None = refl
      then_then (Some y) = refl

module _ {s : Text} {root : Element} {at : ℕ} {w w' : List ℕ} (u : Text) where
  -- a table that was made gives the row of the last with a UID
  pub tabled_finds : {l : Listed} {m : Option Table} → Makes s root l at w w' m → row_in s root l w' m u ≡ row_in32 l root u
  unfolding row_in
  tabled_finds {l} {m} h = go m h.words
    where
      go : (m : Option Table) → TabledIn s root l m w w' → row_in s root l w' m u ≡ row_in32 l root u
      go None x = refl
      go (Some t) x = tabled_row x u

  -- and the last cost resource with a UID
  pub tabled_cost : {m : Option Table} → Makes s root Listed.Cost at w w' m → cost_in s root w' m u ≡ find_last (has_uid u) (cost_resources root)
  unfolding cost_in
  tabled_cost {m} h = go m h.words
    where
      go : (m : Option Table) → TabledIn s root Listed.Cost m w w' → cost_in s root w' m u ≡ find_last (has_uid u) (cost_resources root)
      go None x = refl
      go (Some t) x = tabled_last x u

-- ---- nothing but a table's own words counts

-- the words of a table are the same, where there is one
pub record SameFor (m : Option Table) (w w' : List ℕ) : Type 0 where
  pub same : (t : Table) → m ≡ Some t → SameIn t w w'

find_passes : (p : ℕ → Bool) (l : List ℕ) {r : ℕ} → find p l ≡ Some r → p r ≡ true
unfolding first
find_passes p l {r} e = go (keep p l) refl e
  where
    go : (k : List ℕ) → keep p l ≡ k → first k ≡ Some r → p r ≡ true
    go [] i j = let y : ◌≡◌ {A = ℕ} 0 1 = cc in absurd (omega arith)
    go (x ∷ k) i j = let z : x ≡ r = cc in rw (← z) (keep_head p l i)

-- a row that a chain has is one of the table's
pub chain_row : (p : ℕ → Bool) (w : List ℕ) (t : Table) (h : ℕ) {r : ℕ} → find p (chain_of w t h) ≡ Some r → r < t.rows
chain_row p w t h {r} e =
    let q : ℕ → Bool = λ r. p r && ltb r t.rows in
    let agree : (r : ℕ) → r < t.rows → q r ≡ p r = λ r k. by (p r) (lt-ltb r t.rows k) in
    let z : q r ≡ true = find_passes q (chain_of w t h) (find_agree w t q p h agree ∙ e) in
    ltb-true r t.rows (and_right (p r) _ z)
  where
    by : (a : Bool) {b : Bool} → b ≡ true → (a && b) ≡ a
    by true e = e
    by false e = refl

    and_right : (a b : Bool) → (a && b) ≡ true → b ≡ true
    and_right true b h = h
    and_right false b h = let y : ◌≡◌ {A = ℕ} 0 1 = cc in absurd (omega arith)

module _ (s : Text) {t : Table} {w w' : List ℕ} (x : SameIn t w w') (u : Text) where
  sought_same : sought_in s w' t u ≡ sought_in s w t u
  sought_same = find_same x (λ p. same (uid_of (element_at s p)) u) _

  placed_same : (o : Option ℕ) → sought_in s w t u ≡ o → (o >>= λ r. Some (element_at s (place_of w' t r))) ≡ (o >>= λ r. Some (element_at s (place_of w t r)))
  placed_same None e = refl
  placed_same (Some r) e = ap (λ (p : ℕ). Some (element_at s p)) (place_same x r (chain_row _ w t _ e))

module _ (s : Text) (root : Element) {w w' : List ℕ} where
  pub row_same : (l : Listed) {m : Option Table} → SameFor m w w' → row_in s root l w' m ≡ row_in s root l w m
  unfolding row_in
  row_same l {m = None} x = refl
  row_same l {m = Some t} x = fun_ext (sought_same s (x.same t refl))

  pub cost_same : {m : Option Table} → SameFor m w w' → cost_in s root w' m ≡ cost_in s root w m
  unfolding cost_in
  cost_same {m = None} x = refl
  cost_same {m = Some t} x =
      let h : SameIn t w w' = x.same t refl in
      fun_ext (λ u. ap (λ o. o >>= λ r. Some (element_at s (place_of w' t r))) (sought_same s h u) ∙ placed_same s h u (sought_in s w t u) refl)

-- ---- a table behind another

made_at : (s : Text) (root : Element) (l : Listed) (len at : ℕ) {t : Table} → Some t ≡ made_for s root l len at → t.at ≡ at
made_at s root l len at {t} e = go (nat_lt (length s) (2 ^ 32)) e
  where
    go : (b : Bool) → Some t ≡ (if b then table_of len at (max 1 (length (listed l root))) else None) → t.at ≡ at
    go true e = ap (λ (t : Table). t.at) (table_placed len at (max 1 (length (listed l root))) e).is
    go false e = let y : ◌≡◌ {A = ℕ} 0 1 = cc in absurd (omega arith)

-- the words of a table stay that ends before the place from which another is made
pub makes_behind : {s : Text} {root : Element} {l : Listed} {at : ℕ} {w w' : List ℕ} {m : Option Table} → Makes s root l at w w' m → (before : Option Table) → end_in before ≤ at → SameFor before w w'
makes_behind {s} {root} {l} {at} {w} {w'} {m} h before k = record { same = λ t i. go t (rw i at k) m h.made h.words }
  where
    go : (t : Table) → end_in (Some t) ≤ at → (m : Option Table) → m ≡ made_for s root l (length w) at → TabledIn s root l m w w' → SameIn t w w'
    go t k None e x = rw x (same_refl t w)
    go t k (Some v) e x =
        let z : v.at ≡ at = made_at s root l (length w) at e in
        record { long = x.length_same; words = λ j a b. x.outside j (apart_before t v (omega arith) j a b) }
