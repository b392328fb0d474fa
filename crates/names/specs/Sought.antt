-- What a table of the calendars finds: the first calendar with a UID, as a look at all of them does. Assumes nothing.
use Prim.Native.Nat.{ℕ, suc, ◌+◌, ◌-◌, ◌^◌, ◌≤◌, ◌<◌}
use Rattle.std.proofs.Common.{arith, ◌∙◌, ltb-true}
use Rattle.std.specs.Prelude.{if◌then◌else◌, ◌≡◌, Bool, true, false, ◌&&◌, leb, ltb, get_or}
use Rattle.std.proofs.Math.Path.{refl, sym, ap}
use mathlib.Core.List.{List, [], ◌∷◌}
use Rattle.std.specs.Prelude.{Option, Some, None}
use Rattle.std.proofs.Math.ListN.{length}
use Rattle.definition.specs.Base.{◌>>=◌, keep, first, find, numbered, same}
use Rattle.definition.specs.Refusal.{most_elements}
use Rattle.definition.specs.Text.{Text}
use Rattle.definition.specs.Tree.{Element}
use Rattle.index.specs.declared.Table.{Table}
use Rattle.index.specs.Below.{SameBelow, below_refl, below_in}
use Rattle.index.specs.Hash.{hash_of, same_hash}
use Rattle.index.specs.Last.{last_below, last_none}
use Rattle.index.proofs.Last.{last_yes, last_no, last_same, last_in}
use Rattle.index.specs.Law.{Placed, table_placed}
use Rattle.index.proofs.Law.{find_by_place}
use Rattle.index.specs.Frame.{SameIn, find_same, place_same}
use Rattle.index.specs.Chains.{table_of, place_of}
use Rattle.rows.specs.Rows.{in_order, has_uid, with_uid_in}
use Rattle.rows.specs.Tables.{uid_of, sought_in, no_element}
use Rattle.rows.specs.Tabled.{chain_row}
use Rattle.tree.specs.Place.{element_at}
use Rattle.names.specs.declared.uids.CalendarTable.{CalendarTable}
use Rattle.names.specs.Uids.{how_many, rows_for, made_in, of_row, Uids, UidsIn, end_from, MakesUids, row_found, calendar_by, Ripe}

-- ---- the first of a list is the last of the list turned round

module _ {A : Type 0} (p : A → Bool) (d : A) where
  abbrev back : List A → ℕ → A
  back l r = get_or l (length l - suc r) d

  abbrev numbered_back : ℕ → List A → ℕ → Option (ℕ × A)
  numbered_back k l r = Some (k + (length l - suc r), back l r)

  one_more : (x : A) (l : List A) (r : ℕ) → r < length l → back (x ∷ l) r ≡ back l r
  one_more x l r h =
      let z : suc (length l) - suc r ≡ suc (length l - suc r) = omega arith in
      ap (λ (i : ℕ). get_or (x ∷ l) i d) z

  pub find_back : (k : ℕ) (l : List A) → find (λ (x : ℕ × A). p x.1) (numbered k l) ≡ (last_below (λ r. p (back l r)) (length l) >>= numbered_back k l)
  unfolding keep first numbered
  find_back k [] = ap (λ (o : Option ℕ). o >>= numbered_back k []) (sym (last_none (λ r. p (back [] r))))
  find_back k (x ∷ l) = go (p x) refl (find_back (suc k) l)
    where
      n : ℕ
      n = length l

      here : back (x ∷ l) n ≡ x
      here = let z : suc (length l) - suc (length l) ≡ 0 = omega arith in ap (λ (i : ℕ). get_or (x ∷ l) i d) z

      later : (o : Option ℕ) → ((r : ℕ) → o ≡ Some r → r < n) → (o >>= numbered_back (suc k) l) ≡ (o >>= numbered_back k (x ∷ l))
      later None h = refl
      later (Some r) h =
          let i : r < length l = h r refl in
          let z : suc k + (length l - suc r) ≡ k + (suc (length l) - suc r) = omega arith in
          ap (λ (j : ℕ). Some (j, back l r)) z ∙ ap (λ (e : A). Some (k + (suc (length l) - suc r), e)) (sym (one_more x l r i))

      found : ℕ → Bool
      found r = p (back (x ∷ l) r)

      go : (b : Bool) → p x ≡ b → first (keep (λ (x : ℕ × A). p x.1) (numbered (suc k) l)) ≡ (last_below (λ r. p (back l r)) (length l) >>= numbered_back (suc k) l)
          → first (if b then (k, x) ∷ keep (λ (x : ℕ × A). p x.1) (numbered (suc k) l) else keep (λ (x : ℕ × A). p x.1) (numbered (suc k) l))
          ≡ (last_below found (suc n) >>= numbered_back k (x ∷ l))
      go true e h =
          let z : k ≡ k + (suc n - suc n) = omega arith in
          ap (λ (j : ℕ). Some (j, x)) z
          ∙ ap (λ (e : A). Some (k + (suc n - suc n), e)) (sym here)
          ∙ ap (λ (o : Option ℕ). o >>= numbered_back k (x ∷ l)) (sym (last_yes found n (ap p here ∙ e)))
      go false e h =
          let same : last_below (λ r. p (back l r)) n ≡ last_below found (suc n) =
          last_same (λ r. p (back l r)) found n (λ r i. ap p (sym (one_more x l r i))) ∙ sym (last_no found n (ap p here ∙ e)) in
          h
          ∙ later (last_below (λ r. p (back l r)) n) (λ r i. (last_in (λ r. p (back l r)) n i).0)
          ∙ ap (λ (o : Option ℕ). o >>= numbered_back k (x ∷ l)) same

-- ---- the table

module _ {s : Text} {root : Element} {t : Table} {w : List ℕ} (x : Uids s root t w) where
  pub sought : (u : Text) → sought_in s w t u ≡ last_below (λ r. has_uid u (of_row root r)) (how_many root)
  sought u =
      find_by_place x.indexed (λ v. same (uid_of (element_at s v)) u) (λ r. has_uid u (of_row root r)) (hash_of u)
      (λ r h. ap (has_uid u) (x.stands r h)) (λ r h e. same_hash (uid_of (of_row root r)) u e)

  -- THE LAW
  by_uid : (u : Text) → calendar_by s root w (Some t) u ≡ with_uid_in root u
  unfolding calendar_by
  by_uid u =
      ap (λ (o : Option ℕ). o >>= row_found s w t) (sought u)
      ∙ go (last_below (λ r. has_uid u (of_row root r)) (how_many root)) (λ r e. (last_in (λ r. has_uid u (of_row root r)) (how_many root) e).0)
      ∙ sym (find_back (has_uid u) no_element 0 (in_order root))
    where
      go : (o : Option ℕ) → ((r : ℕ) → o ≡ Some r → r < how_many root)
          → (o >>= row_found s w t) ≡ (o >>= λ r. Some (0 + (how_many root - suc r), of_row root r))
      go None h = refl
      go (Some r) h =
          let z : t.rows - suc r ≡ 0 + (how_many root - suc r) = omega (arith, x.rows, h r refl) in
          let y : row_found s w t r ≡ Some (0 + (how_many root - suc r), element_at s (place_of w t r)) = ap (λ (k : ℕ). Some (k, element_at s (place_of w t r))) z in
          y ∙ ap (λ (e : Element). Some (0 + (how_many root - suc r), e)) (x.stands r (h r refl))

-- ---- where it stands

module _ (s : Text) (root : Element) (len at : ℕ) {t : Table} (e : Some t ≡ made_in s root len at) where
  placed : (length s < 2 ^ 32) × Placed (len - suc (rows_for root)) at (rows_for root) t
  placed = go (ltb (length s) (2 ^ 32)) (leb (how_many root) most_elements) refl refl e
    where
      go : (a b : Bool) → ltb (length s) (2 ^ 32) ≡ a → leb (how_many root) most_elements ≡ b
          → Some t ≡ (if a && b then table_of (len - suc (rows_for root)) at (rows_for root) else None) → (length s < 2 ^ 32) × Placed (len - suc (rows_for root)) at (rows_for root) t
      go true true f g e = (ltb-true (length s) (2 ^ 32) f, table_placed (len - suc (rows_for root)) at (rows_for root) e)
      go true false f g e = let y : ◌≡◌ {A = ℕ} 0 1 = cc in absurd (omega arith)
      go false b f g e = let y : ◌≡◌ {A = ℕ} 0 1 = cc in absurd (omega arith)

  pub made_at : t.at ≡ at
  made_at = ap (λ (t : Table). t.at) placed.1.is

  pub made_ripe : Ripe s root t len
  made_ripe =
      let z : t.rows ≡ rows_for root = ap (λ (t : Table). t.rows) placed.1.is in
      record { short = placed.0; rows = z; some = placed.1.fits.some; room = omega (arith, placed.1.fits.room, placed.1.fits.some) }

-- ---- whether there is a table or none

abbrev pub end_names : Option Table → ℕ
end_names = end_from 0

-- words that say of each UID what the definition says
pub record FindsUids (s : Text) (root : Element) (m : Option Table) (w : List ℕ) : Type 0 where
  pub found : (u : Text) → calendar_by s root w m u ≡ with_uid_in root u

-- nothing but its own words counts
pub uids_kept : {s : Text} {root : Element} {m : Option Table} {w w' : List ℕ} → SameBelow (end_names m) w w' → FindsUids s root m w → FindsUids s root m w'
unfolding calendar_by
uids_kept {s} {root} {m} {w} {w'} y h = go m y h
  where
    go : (m : Option Table) → SameBelow (end_names m) w w' → FindsUids s root m w → FindsUids s root m w'
    go None y h = record { found = λ u. refl }
    go (Some t) y h = record {
      found = λ u.
          ap (λ (o : Option ℕ). o >>= row_found s w' t) (find_same in_table (λ v. same (uid_of (element_at s v)) u) (hash_of u))
          ∙ at_row (sought_in s w t u) (λ r e. chain_row (λ r. same (uid_of (element_at s (place_of w t r))) u) w t (hash_of u) e)
          ∙ h.found u;
    }
      where
        in_table : SameIn t w w'
        in_table = below_in y (omega arith)

        at_row : (o : Option ℕ) → ((r : ℕ) → o ≡ Some r → r < t.rows) → (o >>= row_found s w' t) ≡ (o >>= row_found s w t)
        at_row None k = refl
        at_row (Some r) k = ap (λ (p : ℕ). Some (t.rows - suc r, element_at s p)) (place_same in_table r (k r refl))

module _ {s : Text} {root : Element} {at : ℕ} {w w' : List ℕ} {r : CalendarTable} (h : MakesUids s root at w w' r) where
  pub uids_find : FindsUids s root r.table w'
  unfolding calendar_by
  uids_find = go r.table h.words
    where
      go : (m : Option Table) → UidsIn s root m w w' → FindsUids s root m w'
      go None x = record { found = λ u. refl }
      go (Some t) x = record { found = by_uid x.0 }

  -- it stands behind the place, and what is before stays
  pub uids_behind : (at ≤ r.end) × (end_names r.table ≤ r.end)
  uids_behind = go r.table h.made h.end
    where
      go : (m : Option Table) → m ≡ made_in s root (length w) at → r.end ≡ end_from at m → (at ≤ r.end) × (end_names m ≤ r.end)
      go None i e = (omega arith, omega arith)
      go (Some t) i e = (omega (arith, made_at s root (length w) at i), omega arith)

  pub uids_below : SameBelow at w w'
  uids_below = go r.table h.made h.words
    where
      go : (m : Option Table) → m ≡ made_in s root (length w) at → UidsIn s root m w w' → SameBelow at w w'
      go None i x = rw x (below_refl at w)
      go (Some t) i x = record { long = x.1.long; words = λ j k. x.1.outside j (λ a b. omega (arith, made_at s root (length w) at i)) }
