-- What a table of the calendars says: the name of each UID, as the definition says it. Assumes nothing.
use Prim.Native.Nat.{ℕ, suc, ◌+◌, ◌-◌, ◌≤◌, ◌<◌}
use native.Mathlib.Omega.{arith}
use Rattle.std.specs.Prelude.{if◌then◌else◌, ◌≡◌, Bool, true, false, not, List, get_or}
use Rattle.std.proofs.Math.Path.{refl, sym, ap}
use Rattle.std.proofs.Common.{◌∙◌}
use Rattle.std.specs.Prelude.{Option, Some, None}
use Rattle.definition.specs.Base.{◌>>=◌, when, same}
use Rattle.definition.specs.Calendar.{elapsed_name}
use Rattle.definition.specs.Task.{Context, unless_main}
use Rattle.definition.specs.Text.{Text}
use Rattle.definition.specs.Tree.{Element}
use Rattle.index.specs.declared.Table.{Table}
use Rattle.index.specs.Below.{SameBelow, below_in}
use Rattle.index.specs.Hash.{hash_of}
use Rattle.index.specs.Last.{last_below}
use Rattle.index.proofs.Last.{last_in}
use Rattle.index.specs.Frame.{SameIn, find_same, place_same}
use Rattle.index.specs.Chains.{place_of}
use Rattle.bits.specs.declared.Place.{Place}
use Rattle.pack.specs.Value.{starred_by}
use Rattle.rows.specs.Rows.{in_order, has_uid, with_uid_in}
use Rattle.rows.specs.Tables.{uid_of, sought_in, no_element}
use Rattle.rows.specs.Tabled.{chain_row}
use Rattle.tree.specs.Place.{element_at}
use Rattle.names.specs.declared.uids.CalendarTable.{CalendarTable}
use Rattle.names.specs.Uids.{names_end, how_many, of_row, UidsIn, MakesUids}
use Rattle.names.specs.Sought.{find_back, sought, end_names, uids_behind, uids_below}
use Rattle.names.specs.Context.{wanted_name, stars_in, name_in, context_at}
use Rattle.names.specs.Stars.{star_none}
use Rattle.names.specs.ByUid.{name_with}
use Rattle.names.specs.Named.{name_word, name_by, name_at, named_by, name_of_row, named_in, elapsed_in, Calendars, CalendarsIn, Makes}

-- ---- a name's word

pub name_said : (x : Context) (text : Text) (stars : ℕ) → name_by text (name_word x.main.name text stars) ≡ unless_main x (starred_by text stars)
unfolding name_word name_by
name_said x text stars = go (same (starred_by text stars) x.main.name)
  where
    go : (b : Bool) → name_by text (if b then 0 else suc stars) ≡ when (not b) (starred_by text stars)
    go true = refl
    go false = refl

-- ---- by a look at all calendars

module _ (d : List ℕ) (c : Place) (root : Element) where
  pub named_by_lem : (u : Text) → named_by (context_at d c root) u ≡ (with_uid_in root u >>= λ y. unless_main (context_at d c root) (name_in d c root y))
  unfolding context_at
  named_by_lem u = ap (λ (o : Option Text). o >>= unless_main (context_at d c root)) (name_with d c root u) ∙ go (with_uid_in root u)
    where
      go : (o : Option (ℕ × Element)) → (o >>= (λ y. Some (name_in d c root y)) >>= unless_main (context_at d c root)) ≡ (o >>= λ y. unless_main (context_at d c root) (name_in d c root y))
      go None = refl
      go (Some y) = refl

-- ---- the table

module _ {d : List ℕ} {c : Place} {s : Text} {root : Element} {t : Table} {w : List ℕ} (x : Calendars d c s root t w) where
  in_row : (r : ℕ) → r < how_many root → name_of_row s w t (Some r) ≡ unless_main (context_at d c root) (name_in d c root (how_many root - suc r, of_row root r))
  in_row r h =
      ap (λ (e : Element). name_by (wanted_name e) (get_or w (name_at t r) 0)) (x.uids.stands r h)
      ∙ ap (name_by (wanted_name (of_row root r))) (x.names r h)
      ∙ name_said (context_at d c root) (wanted_name (of_row root r)) (stars_in d c root (how_many root - suc r) (of_row root r))

  -- THE LAW
  pub calendars_named : (u : Text) → named_in (context_at d c root) s w (Some t) u ≡ named_by (context_at d c root) u
  unfolding named_in
  calendars_named u =
      ap (name_of_row s w t) (sought x.uids u)
      ∙ go (last_below (λ r. has_uid u (of_row root r)) (how_many root)) (λ r e. (last_in (λ r. has_uid u (of_row root r)) (how_many root) e).0)
      ∙ ap (λ (o : Option (ℕ × Element)). o >>= λ y. unless_main (context_at d c root) (name_in d c root y)) (sym (find_back (has_uid u) no_element 0 (in_order root)))
      ∙ sym (named_by_lem d c root u)
    where
      go : (o : Option ℕ) → ((r : ℕ) → o ≡ Some r → r < how_many root)
          → name_of_row s w t o ≡ (o >>= (λ r. Some (0 + (how_many root - suc r), of_row root r)) >>= λ y. unless_main (context_at d c root) (name_in d c root y))
      go None h = refl
      go (Some r) h =
          let z : how_many root - suc r ≡ 0 + (how_many root - suc r) = omega arith in
          in_row r (h r refl) ∙ ap (λ (i : ℕ). unless_main (context_at d c root) (name_in d c root (i, of_row root r))) z

  pub calendars_elapsed : elapsed_in (context_at d c root) w (Some t) ≡ unless_main (context_at d c root) elapsed_name
  unfolding elapsed_in
  calendars_elapsed = ap (name_by elapsed_name) x.elapsed ∙ name_said (context_at d c root) elapsed_name 0 ∙ ap (unless_main (context_at d c root)) (star_none elapsed_name)

-- ---- nothing but its own words counts

module _ (x : Context) (s : Text) (t : Table) {w w' : List ℕ} (y : SameBelow (names_end t) w w') where
  in_table : SameIn t w w'
  in_table = below_in y (omega arith)

  pub named_same : (u : Text) → named_in x s w' (Some t) u ≡ named_in x s w (Some t) u
  unfolding named_in
  named_same u =
      ap (name_of_row s w' t) (find_same in_table (λ v. same (uid_of (element_at s v)) u) (hash_of u))
      ∙ go (sought_in s w t u) (λ r e. chain_row (λ r. same (uid_of (element_at s (place_of w t r))) u) w t (hash_of u) e)
    where
      go : (o : Option ℕ) → ((r : ℕ) → o ≡ Some r → r < t.rows) → name_of_row s w' t o ≡ name_of_row s w t o
      go None h = refl
      go (Some r) h =
          let k : r < t.rows = h r refl in
          ap (λ (p : ℕ). name_by (wanted_name (element_at s p)) (get_or w' (name_at t r) 0)) (place_same in_table r k)
          ∙ ap (name_by (wanted_name (element_at s (place_of w t r)))) (y.words (name_at t r) (omega arith))

  pub elapsed_same : elapsed_in x w' (Some t) ≡ elapsed_in x w (Some t)
  unfolding elapsed_in
  elapsed_same = ap (name_by elapsed_name) (y.words (name_at t t.rows) (omega arith))

-- ---- whether there is a table or none

-- words that say of each UID what the definition says
pub record Finds (x : Context) (s : Text) (m : Option Table) (w : List ℕ) : Type 0 where
  pub named : (u : Text) → named_in x s w m u ≡ named_by x u
  pub elapsed : elapsed_in x w m ≡ unless_main x elapsed_name

pub finds_kept : {x : Context} {s : Text} {m : Option Table} {w w' : List ℕ} → SameBelow (end_names m) w w' → Finds x s m w → Finds x s m w'
unfolding named_in elapsed_in
finds_kept {x} {s} {m} {w} {w'} y h = go m y h
  where
    go : (m : Option Table) → SameBelow (end_names m) w w' → Finds x s m w → Finds x s m w'
    go None y h = record { named = λ u. refl; elapsed = refl }
    go (Some t) y h = record { named = λ u. named_same x s t y u ∙ h.named u; elapsed = elapsed_same x s t y ∙ h.elapsed }

module _ {d : List ℕ} {c : Place} {s : Text} {root : Element} {at : ℕ} {w w' : List ℕ} {r : CalendarTable} (h : Makes d c s root at w w' r) where
  pub makes_finds : Finds (context_at d c root) s r.table w'
  unfolding named_in elapsed_in
  makes_finds = go r.table h.words
    where
      go : (m : Option Table) → CalendarsIn d c s root m w w' → Finds (context_at d c root) s m w'
      go None x = record { named = λ u. refl; elapsed = refl }
      go (Some t) x = record { named = calendars_named x.0; elapsed = calendars_elapsed x.0 }

  makes_uids : MakesUids s root at w w' r
  makes_uids = record { made = h.made; end = h.end; words = go r.table h.words }
    where
      go : (m : Option Table) → CalendarsIn d c s root m w w' → UidsIn s root m w w'
      go None x = x
      go (Some t) x = (x.0.uids, x.1)

  -- it stands behind the place, and what is before stays
  pub makes_behind : (at ≤ r.end) × (end_names r.table ≤ r.end)
  makes_behind = uids_behind makes_uids

  pub makes_below : SameBelow at w w'
  makes_below = uids_below makes_uids
