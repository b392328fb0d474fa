-- What a walk over a chain finds, and the places of two tables. Assumes nothing.
use Rattle.std.specs.Prelude.{if◌then◌else◌}
use mathlib.Core.Path.{◌≡◌, refl, sym, ap, ◌∙◌}
use mathlib.Core.Bool.{Bool, true, false, ◌&&◌}
use mathlib.Core.List.{List}
use Rattle.std.specs.Prelude.{Option, Some, None, MatchOption}
use Prim.Native.Nat.{ℕ, ◌+◌, ◌*◌, ◌≤◌, ◌<◌}
use native.Mathlib.Omega.{arith}
use lib.Dec.{ltb, leb, eqb}
use lib.ListN.{length}
use borrow.Author.Tests.{lt-ltb, le-ltb, le-leb, lt-leb, eq-eqb, ne_eqb, leb-true, leb-false}
use Rattle.definition.specs.Base.{◌>>=◌, ◌or◌}
use Rattle.definition.specs.Calendar.{free}
use Rattle.definition.specs.Text.{Text}
use Rattle.bits.specs.Places.{inside}
use Rattle.bits.specs.declared.Place.{Place}
use Rattle.index.specs.Chains.{table_of, place_of}
use Rattle.pack.specs.Value.{starred_by}
use Rattle.model.specs.declared.records.Kind.{Kind}
use Rattle.names.specs.Texts.{place_of_row, texts_at}
use Rattle.names.specs.Ids.{ids_of, no_ids, free_in, ids_for, begun, starred_in, place_in}
use Rattle.names.specs.declared.ids.Ids.{Ids}

-- ---- what was found

-- a number of the row
pub its_number : (f : ℕ → ℕ) (o : Option ℕ) (n : ℕ) {P : ℕ → Type 0} → MatchOption o (n ≡ 0) P → ((r : ℕ) → P r → n ≡ f r) → n ≡ ((o >>= λ r. Some (f r)) or 0)
its_number f None n h k = h
its_number f (Some r) n h k = k r h

-- ---- two tables

-- one behind the other
pub ids_two : (len at rows : ℕ) → (table_of len at rows >>= λ i. table_of len (at + 3 * rows) rows >>= λ w. Some (record { ids = i; wanted = w })) ≡ ids_of len at rows
unfolding table_of ids_of
ids_two len at rows =
    let z : at + 3 * rows + 3 * rows ≡ at + 6 * rows = omega arith in
    go (ltb 0 rows) (leb (at + 3 * rows) len) (leb (at + 3 * rows + 3 * rows) len) refl refl ∙ ap (λ (n : ℕ). if ltb 0 rows && leb n len then Some both else None) z
  where
    both : Ids
    both = record { ids = record { at = at; rows = rows }; wanted = record { at = at + 3 * rows; rows = rows } }

    go : (a b d : Bool) → leb (at + 3 * rows) len ≡ b → leb (at + 3 * rows + 3 * rows) len ≡ d
        → ((if a && b then Some both.ids else None) >>= λ i. (if a && d then Some both.wanted else None) >>= λ w. Some (record { ids = i; wanted = w })) ≡ (if a && d then Some both else None)
    go false b d h k = refl
    go true true true h k = refl
    go true true false h k = refl
    go true false true h k = absurd (omega (arith, leb-false (at + 3 * rows) len h, leb-true (at + 3 * rows + 3 * rows) len k))
    go true false false h k = refl

-- ---- the ids of a section

module _ (bytes : ℕ) (start : Place) (w : List ℕ) (at rows : ℕ) where
  abbrev Starts : Option Ids → List ℕ → Type 0
  Starts m w' = (m ≡ ids_for bytes start (length w) at rows) × (w' ≡ begun w m)

  pub tables_inside : (start.bit ≡ 0 → ⊥) → Starts None w
  unfolding ids_for
  tables_inside h = (rw (ne_eqb start.bit 0 h), refl)

  pub tables_long : 4294967295 < bytes → Starts None w
  unfolding ids_for
  tables_long h = (go (eqb start.bit 0), refl)
    where
      go : (a : Bool) → None ≡ (if a && leb bytes 4294967295 then ids_of (length w) at rows else None)
      go false = refl
      go true = rw (lt-leb bytes 4294967295 h)

  module _ (z : start.bit ≡ 0) (h : bytes ≤ 4294967295) where
    tables_may : ids_of (length w) at rows ≡ ids_for bytes start (length w) at rows
    unfolding ids_for
    tables_may = rw (eq-eqb start.bit 0 z, le-leb bytes 4294967295 h)

    module _ {m : Option Ids} (i : m ≡ ids_of (length w) at rows) where
      pub tables_refused : m ≡ None → Starts None w
      tables_refused e = (sym e ∙ i ∙ tables_may, refl)

      pub tables_ready : {t : Ids} → m ≡ Some t → {w' : List ℕ} → w' ≡ no_ids w t → Starts (Some t) w'
      tables_ready e z = (sym e ∙ i ∙ tables_may, z)

module _ (kind : Kind) (d : List ℕ) (start p : Place) (w : List ℕ) (m : Option Ids) (n : ℕ) (u : Text) where
  abbrev Gives : ℕ → Type 0
  Gives k = starred_by u k ≡ starred_in kind d start p w m n u

  pub starred_past : inside (length d) p ≡ false → Gives 0
  unfolding starred_in
  starred_past e = rw e

  module _ (e : inside (length d) p ≡ true) (k : ℕ) where
    pub starred_scan : m ≡ None → starred_by u k ≡ free (texts_at kind d start n) u → Gives k
    unfolding starred_in
    starred_scan z h = rw (e, z) h

    module _ {i : Ids} (z : m ≡ Some i) where
      pub starred_few : i.ids.rows < n → starred_by u k ≡ free (texts_at kind d start n) u → Gives k
      unfolding starred_in
      starred_few l h = rw (e, z, lt-ltb i.ids.rows n l) h

      pub starred_by_lem : n ≤ i.ids.rows → k ≡ free_in d w i n u → Gives k
      unfolding starred_in
      starred_by_lem l h = rw (e, z, le-ltb i.ids.rows n l) (ap (starred_by u) h)

module _ (kind : Kind) (d : List ℕ) (start : Place) (w : List ℕ) (m : Option Ids) (n row : ℕ) where
  pub place_scan : m ≡ None → {r : Place} → r ≡ place_of_row kind d start row → r ≡ place_in kind d start w m n row
  unfolding place_in
  place_scan z h = rw z h

  module _ {i : Ids} (z : m ≡ Some i) where
    pub place_few : i.ids.rows < n → {r : Place} → r ≡ place_of_row kind d start row → r ≡ place_in kind d start w m n row
    unfolding place_in
    place_few l h = rw (z, lt-ltb i.ids.rows n l) h

    pub place_by_lem : n ≤ i.ids.rows → {byte : ℕ} → byte ≡ place_of w i.ids row → record { byte = byte; bit = 0 } ≡ place_in kind d start w m n row
    unfolding place_in
    place_by_lem l h = rw (z, le-ltb i.ids.rows n l) (λ j. record { byte = h j; bit = 0 })
