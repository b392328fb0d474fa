-- What is read before a place still is when others are written behind it: the names of the calendars. Assumes nothing.
use Rattle.std.specs.Prelude.{if◌then◌else◌, ◌≡◌, refl, Bool, true, false, leb, ltb, eqb, length}
use Rattle.std.proofs.Math.Path.{ap}
use Rattle.std.proofs.Common.{◌∙◌, arith, ltb-true}
use mathlib.Core.List.{List, [], ◌∷◌, map}
use Rattle.std.specs.Prelude.{Option, Some, None}
use Prim.Native.Nat.{ℕ, suc, ◌+◌, ◌-◌, ◌≤◌, ◌<◌}
use Rattle.definition.specs.Base.{◌>>=◌, ◌or◌, ◌or_else◌, keep, first, numbered}
use Rattle.definition.specs.Bits.{Bits}
use Rattle.definition.specs.Text.{Text}
use Rattle.definition.specs.Tree.{Element}
use Rattle.definition.specs.Field.{text_in}
use Rattle.definition.specs.Format.{times}
use Rattle.definition.specs.Calendar.{Named, plain_calendar, main_calendar}
use Rattle.definition.specs.Refusal.{most_elements}
use Rattle.definition.specs.Task.{per_day_of, kept_tasks}
use Rattle.laws.specs.Bools.{both}
use Rattle.laws.specs.Buf.{Buf}
use Rattle.laws.specs.Options.{never}
use Rattle.bits.specs.Places.{at, inside, up_to, Fits, fits_room, room_fits, Before, up_before, before_up}
use Rattle.bits.specs.Reads.{rest, spot}
use Rattle.bits.specs.Steps.{Step, before, before_in, before_out}
use Rattle.bits.specs.declared.Place.{Place}
use Rattle.model.specs.Answers.{seen, read_at}
use Rattle.model.specs.Parts.{record_of}
use Rattle.model.specs.declared.records.Kind.{Kind}
use Rattle.model.specs.declared.records.Kind.TheVariants.{Calendars}
use Rattle.pack.specs.Value.{starred_by}
use Rattle.rows.specs.Rows.{in_order, main_in, with_uid_in, has_uid}
use Rattle.names.specs.Texts.{place_of_row}
use Rattle.names.specs.Context.{main_row, section_row, wanted_name, name_in, built_at, context_at, calendars_before}
use Rattle.names.specs.Kept.{Kept, step_kept}
use Rattle.names.specs.Records.{plain_calendars_lem, front_calendars, place_kept, text_kept}

-- ---- places

-- a place that was answered is inside, unless it is past every end
pub place_inside : (kind : Kind) (d : List ℕ) (p : Place) (n : ℕ) → (place_of_row kind d p n).bit < 8 → inside (length d) (place_of_row kind d p n) ≡ true
unfolding place_of_row read_at
place_inside kind d p n h = by_read (rest d p >>= (times n (record_of false kind)).get) h
  where
    by_read : (o : Option (List (Unit {0}) × Bits)) → (seen d o).1.bit < 8 → inside (length d) (seen d o).1 ≡ true
    by_read None h = absurd (omega arith)
    by_read (Some x) h = let f : Fits (length d) (spot d x.1) 0 = record { bit = omega arith; ends = omega arith } in fits_room f

-- no place inside is behind what a step leaves
step_leaves : (n : ℕ) (p q : Place) → inside n p ≡ true → at p ≤ at q → at p ≤ before n q
step_leaves n p q i h = by_room (inside n q) refl
  where
    by_room : (t : Bool) → inside n q ≡ t → at p ≤ before n q
    by_room true e = omega (arith, before_in n q (room_fits n q 0 e))
    by_room false e = omega (arith, before_out n q e, (room_fits n p 0 i).ends)

-- ---- rows of calendars

numbered_below : {A : Type 0} (k : ℕ) (l : List A) (p : ℕ × A → Bool) (x : ℕ × A) → first (keep p (numbered k l)) ≡ Some x → x.0 < k + length l
unfolding numbered keep first
numbered_below k [] p x e = never e
numbered_below {A} k (y ∷ l) p x e = by_test (λ e. numbered_below (suc k) l p x e) (p (k, y)) e
  where
    by_test : (first (keep p (numbered (suc k) l)) ≡ Some x → x.0 < suc k + length l) → (t : Bool) → first (if t then (k, y) ∷ keep p (numbered (suc k) l) else keep p (numbered (suc k) l)) ≡ Some x → x.0 < k + suc (length l)
    by_test more true e = let z : ◌≡◌ {A = ℕ × A} (k, y) x = cc in let w : k ≡ x.0 = ap (λ (x : ℕ × A). x.0) z in omega arith
    by_test more false e = omega (arith, more e)

first_below : {A : Type 0} (k : ℕ) (l : List A) (x : ℕ × A) → first (numbered k l) ≡ Some x → x.0 < k + length l
unfolding numbered first
first_below k [] x e = never e
first_below {A} k (y ∷ l) x e = let z : ◌≡◌ {A = ℕ × A} (k, y) x = cc in let w : k ≡ x.0 = ap (λ (x : ℕ × A). x.0) z in omega arith

main_below : (root : Element) (x : ℕ × Element) → main_in root ≡ Some x → x.0 < length (in_order root)
unfolding main_in
main_below root x e = by_uid (text_in root "CalendarUID" >>= with_uid_in root) refl e
  where
    l : List Element
    l = in_order root

    by_text : (o : Option Text) → (o >>= with_uid_in root) ≡ Some x → x.0 < length l
    by_text None e = never e
    by_text (Some u) e = omega (arith, numbered_below 0 l (λ (x : ℕ × Element). has_uid u x.1) x e)

    by_uid : (o : Option (ℕ × Element)) → (text_in root "CalendarUID" >>= with_uid_in root) ≡ o → (o or_else first (numbered 0 l)) ≡ Some x → x.0 < length l
    by_uid None z e = omega (arith, first_below 0 l x e)
    by_uid (Some y) z e = by_text (text_in root "CalendarUID") (z ∙ e)

pub section_below : (root : Element) (row : ℕ) → row < length (in_order root) → section_row (main_row root) row < length (in_order root)
section_below root row h = by_main (main_in root) refl
  where
    n : ℕ
    n = length (in_order root)

    by_row : (main : ℕ) → (row < main → main < n) → (t o : Bool) → eqb row main ≡ t → ltb row main ≡ o → (if t then 0 else if o then suc row else row) < n
    by_row main m true o et eo = omega arith
    by_row main m false true et eo = omega (arith, m (ltb-true row main eo), ltb-true row main eo)
    by_row main m false false et eo = h

    by_main : (o : Option (ℕ × Element)) → main_in root ≡ o → section_row ((o >>= λ x. Some x.0) or 0) row < n
    by_main None z = by_row 0 (λ l. absurd (omega arith)) (eqb row 0) (ltb row 0) refl refl
    by_main (Some x) z = by_row x.0 (λ l. main_below root x z) (eqb row x.0) (ltb row x.0) refl refl

numbered_same : {A B : Type 0} (f g : ℕ × A → B) (k : ℕ) (l : List A) → ((i : ℕ) (a : A) → i < k + length l → f (i, a) ≡ g (i, a)) → map f (numbered k l) ≡ map g (numbered k l)
unfolding numbered
numbered_same f g k [] h = refl
numbered_same {A} {B} f g k (x ∷ l) h =
    ap (λ (b : B). b ∷ map f (numbered (suc k) l)) (h k x (omega arith)) ∙ ap (λ (m : List B). g (k, x) ∷ m) (numbered_same f g (suc k) l (λ i a w. h i a (omega arith)))

-- ---- the calendars' names

-- all calendars stand before a place
pub record AllBefore (d : List ℕ) (c : Place) (root : Element) (q : Place) : Type 0 where
  pub few : leb (length (in_order root)) most_elements ≡ true
  pub last : Before (place_of_row Calendars d c (length (in_order root))) q

pub all_before : (d : List ℕ) (c : Place) (root : Element) (q : Place) → calendars_before d c root q ≡ true → AllBefore d c root q
unfolding calendars_before
all_before d c root q h = let (a, b) = both (leb (length (in_order root)) most_elements) (up_to (place_of_row Calendars d c (length (in_order root))) q) h in record { few = a; last = up_before _ q b }

pub before_all : {d : List ℕ} {c : Place} {root : Element} {q : Place} → AllBefore d c root q → calendars_before d c root q ≡ true
unfolding calendars_before
before_all h = rw (h.few, before_up h.last)

module _ {n : ℕ} {d d' : List ℕ} (u : Kept n d d') (c : Place) (root : Element) (i : inside (length d) (place_of_row Calendars d c (length (in_order root))) ≡ true) (h : at (place_of_row Calendars d c (length (in_order root))) ≤ n) where
  name_kept : (row : ℕ) (e : Element) → row < length (in_order root) → name_in d' c root (row, e) ≡ name_in d c root (row, e)
  name_kept row e w =
      ap (λ (t : Text). starred_by (wanted_name e) (length t - length (wanted_name e)))
      (text_kept plain_calendars_lem u c (length (in_order root)) i h front_calendars (section_row (main_row root) row) (section_below root row w))

  built_kept : built_at d' c root ≡ built_at d c root
  unfolding built_at
  built_kept =
      numbered_same (λ (x : ℕ × Element). (text_in x.1 "UID" or [], plain_calendar (name_in d' c root x) [] [])) (λ (x : ℕ × Element). (text_in x.1 "UID" or [], plain_calendar (name_in d c root x) [] [])) 0 (in_order root)
      (λ j e w. ap (λ (t : Text). (text_in e "UID" or [], plain_calendar t [] [])) (name_kept j e (omega arith)))

  pub context_kept : context_at d' c root ≡ context_at d c root
  unfolding context_at
  context_kept = ap (λ (b : List Named). record { per_day = per_day_of root; built = b; main = main_calendar root b; tasks = kept_tasks root }) built_kept

module _ {d : List ℕ} {q : Place} {F : Buf → Buf} {d' : List ℕ} {r : Place} (s : Step d q F d' r) (c : Place) (root : Element) (h : calendars_before d c root q ≡ true) where
  abbrev end : Place
  end = place_of_row Calendars d c (length (in_order root))

  end_inside : inside (length d) end ≡ true
  end_inside = place_inside Calendars d c (length (in_order root)) (all_before d c root q h).last.bit

  end_before : at end ≤ before (length d) q
  end_before = step_leaves (length d) end q end_inside (all_before d c root q h).last.upto

  pub context_carried : context_at d' c root ≡ context_at d c root
  context_carried = context_kept (step_kept s) c root end_inside end_before

  pub before_carried : inside (length d') r ≡ true → calendars_before d' c root r ≡ true
  before_carried i =
      let e = place_kept plain_calendars_lem (step_kept s) c (length (in_order root)) end_inside end_before in
      let b = before_in (length d') r (room_fits (length d') r 0 i) in
      let x = all_before d c root q h in
      let y : Before end r = record { bit = x.last.bit; upto = omega (arith, end_before, s.onward) } in
      before_all (record { few = x.few; last = rw e y })
