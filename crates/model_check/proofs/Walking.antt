-- The activities, tested and put into a table while the model is decoded. Assumes nothing.
use Rattle.std.specs.Prelude.{if◌then◌else◌}
use Rattle.std.specs.Prelude.{Option, Some}
use mathlib.Core.Path.{◌≡◌, refl, sym, ap, subst, ◌∙◌}
use mathlib.Core.Bool.{Bool, true, false, ◌&&◌}
use mathlib.Core.List.{List, [], map}
use Rattle.std.specs.Prelude.{None}
use Prim.Native.Nat.{ℕ, ◌+◌, ◌%◌, ◌^◌, ◌≤◌, ◌<◌, min}
use native.Mathlib.Numerals.{add-one}
use native.Mathlib.Omega.{arith}
use lib.ListN.{length, take, drop, drop_of_length-le}
use Rattle.definition.specs.Base.{every?, numbered}
use Rattle.definition.specs.Text.{Text, is_utf8}
use Rattle.definition.specs.Format.{Format, ◌⊗◌, whole, row, text, optional}
use Rattle.definition.specs.Model.{Calendar, Activity, Model}
use Rattle.definition.specs.Pack.{calendar, activity}
use Rattle.definition.specs.Check.{activity_right, keeps_list}
use Rattle.definition.specs.Refusal.{check_answer}
use Rattle.laws.specs.Options.{never as no_option}
use Rattle.index.specs.declared.Table.{Table}
use Rattle.index.specs.Chains.{end_of, end_in}
use Rattle.index.specs.Frame.{same_refl, same_then, same_added, apart_before, indexed_kept}
use Rattle.bits.specs.Places.{room_short}
use Rattle.bits.specs.Reads.{Spans, rest, rest_out}
use Rattle.bits.specs.declared.Place.{Place}
use Rattle.bits.specs.declared.Field.{Field}
use Rattle.bits.specs.declared.Span.{Span}
use Rattle.model.specs.Answers.{counts_at}
use Rattle.model.specs.Lax.{like_times}
use Rattle.model.specs.Passes.{Passes, pass_read, pass_like, stood}
use Rattle.model.specs.Parts.{text_by, activity_head, record_of, regroup_five, lax_activity_head, lax_activities, strict_activities}
use Rattle.model.specs.Splits.{Stands, Step, step, not_refused, stands_first, stands_next, stands_pass, stands_named, stands_whole, stands_regroup}
use Rattle.model.specs.Sections.{Holds, Decoded, Heads, Behind, Opens, walks, start, counts_in, sections_of, sections_by, byte_at, byte_rest}
use Rattle.model.specs.Opening.{opened, opened_at}
use Rattle.model.specs.PerKind.{Counts}
use Rattle.model.specs.declared.Head.{Head}
use Rattle.model.specs.PerKind.{Places}
use Rattle.model.specs.declared.Section.{Section}
use Rattle.model.specs.PerKind.{Sections}
use Rattle.model.specs.declared.records.Kind.TheVariants.{Calendars, Activities}
use Rattle.model_check.specs.declared.walk.Walked.{Walked}
use Rattle.model_check.specs.Keys.{Key, Keyed}
use Rattle.model_check.specs.Kinds.{Run, run}
use Rattle.model_check.specs.Tables.{EmptyAt, TableFor}
use Rattle.model_check.specs.Walk.{id_key, ApartFrom, Kept, Noted, JudgedAll, Looked, ModelWalked}
use Rattle.model_check.proofs.Keyed.{calendar_key}
use Rattle.model_check.proofs.Scan.{Along, starts, goes}
use Rattle.model_check.proofs.Tabled.{never, no_room}
use Rattle.model_check.proofs.Whole.{refused, checked}

-- ---- the calendar of an activity, behind its parent and its notes

-- behind a text, whether or not its bytes were tested
behind_text : {A : Type 0} {g : Format A} {s : List ℕ} {n : Place} {x : Span} {c : Text × A} → Stands (text ⊗ g) s n c → Spans s n x → Stands g s x.next c.1
behind_text {A} {g} {s} {n} {x} {c} h i = by_utf8 (is_utf8 (take x.len (drop x.start s))) refl
  where
    by_utf8 : (t : Bool) → is_utf8 (take x.len (drop x.start s)) ≡ t → Stands g s x.next c.1
    by_utf8 true z = stands_pass h (pass_read (i.reads z))
    by_utf8 false z = absurd (not_refused (stands_first g h) (i.refuses z))

pub calendar_behind : {s : List ℕ} {p q n : Place} {x : Span} {a : Activity} → Stands (whole activity) s p a → Passes (activity_head (text_by true)) s p q → Passes (optional row) s q n → Spans s n x
    → Stands (optional text) s x.next a.calendar
unfolding activity
calendar_behind h b e i =
    let u = stands_named _ _ (stands_whole h) in
    let y = stands_next (stands_regroup (regroup_five _ _ _ _ _ _) u.stands) (lax_activity_head true) b in
    rw u.is (stands_first _ (behind_text (stands_pass y e) i))

-- ---- tables that stay

pub table_kept : (lead : ℕ) (s : List ℕ) (ks : List Key) (m : Option Table) {w w' : List ℕ} → Kept m w w' → TableFor lead s ks m w → TableFor lead s ks m w'
table_kept lead s ks None k x = tt
table_kept lead s ks (Some t) k x = record { places = x.places; indexed = indexed_kept (k.same t refl) x.indexed; full = x.full; stands = x.stands }

pub kept_none : {m : Option Table} (w : List ℕ) → Kept m w w
kept_none w = record { same = λ n e. same_refl n w }

pub kept_then : {m : Option Table} {a b c : List ℕ} → Kept m a b → Kept m b c → Kept m a c
kept_then p q = record { same = λ n e. same_then (p.same n e) (q.same n e) }

pub kept_noted : {m : Option Table} (o : Option Table) (s : List ℕ) (p : Place) (row : ℕ) {w w₂ : List ℕ} → ApartFrom m o → Noted s p row o w w₂ → Kept m w w₂
kept_noted None s p row {w} a e = rw e (kept_none w)
kept_noted (Some t) s p row {w} a e = record { same = λ n f. rw e.2 (same_added t w row e.0 (p.byte % 2 ^ 32) (a n t f refl)) }

-- ---- one activity after another

-- where the walk stands, at the record of row i, and whether those before it are right
pub record Judging (s : List ℕ) (n : ℕ) (m : Model) (end : ℕ) (right : Bool) (i : ℕ) (q : Place) : Type 0 where
  pub along : Along Activities s n m.activities end never true i q
  pub same : every? (activity_right m) (numbered 0 m.activities) ≡ right && every? (activity_right m) (numbered i (drop i m.activities))

pub far : (s : List ℕ) (q : Place) → 7 < q.bit → rest s q ≡ None
far s q h = rest_out s q (room_short (length s) q 0 (λ b. absurd (omega arith)))

module _ {s : List ℕ} {n : ℕ} {xs : List Activity} {end i : ℕ} {q : Place} (a : Along Activities s n xs end never true i q) where
  -- the record at the place, passed with its tests
  pub tested : {r : Place} → i < n → Passes (record_of true Activities) s q r → Step (whole activity) s q r (byte_at end) n i xs
  tested l p = step (lax_activities true) (byte_rest s end a.ends) a.left l p

  -- a place past every end is none of theirs
  pub not_far : {A : Type 0} → 7 < q.bit → A
  not_far h = let e = (stood (byte_rest s end a.ends) (pass_read a.left)).1 in absurd (no_option (sym (far s q h) ∙ e))

pub judge_starts : {s : List ℕ} {n : ℕ} {m : Model} {end : ℕ} {q : Place} → Run Activities s q n m.activities end → Judging s n m end true 0 q
judge_starts r = record { along = starts never true r; same = refl }

module _ {s : List ℕ} {n : ℕ} {m : Model} {end i : ℕ} {right : Bool} {q : Place} (j : Judging s n m end right i q) where
  pub judge_goes : {r : Place} {b : Bool} (t : Step (whole activity) s q r (byte_at end) n i m.activities) → b ≡ activity_right m (i, t.item) → Judging s n m end (right && b) (i + 1) r
  unfolding every? numbered
  judge_goes {b = b} t e =
      let p : ℕ × Activity → Bool = activity_right m in
      record {
        along = goes never true j.along t refl;
        same = j.same ∙ ap (λ (l : List Activity). right && every? p (numbered i l)) t.is ∙ rw (← e, add-one i) (assoc right b _);
      }
    where
      assoc : (a b c : Bool) → a && (b && c) ≡ (a && b) && c
      assoc true b c = refl
      assoc false b c = refl

  pub judge_ends : n ≤ i → right ≡ every? (activity_right m) (numbered 0 m.activities)
  unfolding every? numbered
  judge_ends h =
      let l : length m.activities ≤ i = omega (arith, j.along.size) in
      let z : drop i m.activities ≡ [] = drop_of_length-le m.activities l in
      sym (j.same ∙ rw z (last right))
    where
      last : (b : Bool) → b && true ≡ b
      last true = refl
      last false = refl

-- ---- the tables of the walk

-- a table that is filled lies within the words
table_fits : (lead : ℕ) (s : List ℕ) (ks : List Key) (m : Option Table) (w : List ℕ) → TableFor lead s ks m w → (k : Table) → m ≡ Some k → end_of k ≤ length w
table_fits lead s ks None w x k g = no_room g
table_fits lead s ks (Some u) w x k g = let z : u ≡ k = cc in subst (λ (t : Table). end_of t ≤ length w) z x.indexed.fits.room

module _ {s : List ℕ} {at n : ℕ} {w w₂ : List ℕ} where
  -- one that is made behind another
  made_behind : (names ids : Option Table) → EmptyAt s at n w w₂ ids → at ≡ min (end_in names) (length w) → ((k : Table) → names ≡ Some k → end_of k ≤ length w) → ApartFrom names ids
  made_behind names ids e f fit k u g h =
      let z : u.at ≡ at = ap (λ (t : Table). t.at) (e.ready u h).is in
      let y : end_in names ≡ end_of k = ap end_in g in
      apart_before k u (omega (arith, z, y, f, fit k g))

  made_kept : (names ids : Option Table) → EmptyAt s at n w w₂ ids → ApartFrom names ids → Kept names w w₂
  made_kept names None e a = rw (e.none refl) (kept_none w)
  made_kept names (Some u) e a = record { same = λ k g. (e.ready u refl).stays k (a k u g refl) }

  ids_in : (ids : Option Table) {p : Place} {x : Section} {names : Option Table} {w₃ : List ℕ} {r : Field Bool Place} → EmptyAt s at n w w₂ ids → JudgedAll s p n x names ids w₂ w₃ r → p.bit % 8 ≡ 0
      → (xs : List Activity) {next : ℕ} → Run Activities s p n xs next → TableFor 0 s (map id_key xs) ids w₃
  ids_in None e j z xs u = tt
  ids_in (Some t) e j z xs u = let v = e.ready t refl in j.keys v.small z t refl (ap (λ (t : Table). t.rows) v.is) v.empty xs _ u

-- ---- the walk

pub walked : {s : List ℕ} {n : Counts} {head : Head} {at : ℕ} {names ids : Option Table} {w w₁ w₂ w₃ : List ℕ} {r : Field Bool Place} {places : Places} → Heads s n head
    → ((key : Calendar → Key) → Keyed Calendars 0 s key → (xs : List Calendar) (end : ℕ) → Holds calendar s (record { count = n.value.calendars; at = head.calendars.byte }) xs end → TableFor 0 s (map key xs) names w₁)
    → at ≡ min (end_in names) (length w₁) → EmptyAt s at n.value.activities w₁ w₂ ids
    → JudgedAll s head.activities n.value.activities (record { count = n.value.calendars; at = head.calendars.byte }) names ids w₂ w₃ r → Behind s n head r.next places
    → ModelWalked s n w w₃ (record { places = places; tables = record { names = names; ids = ids }; right = r.value })
walked {s} {n} {head} {at} {names} {ids} {w} {w₁} {w₂} {w₃} {r} {places} h i f e j b =
    record { walks = walks h (pass_like (like_times _ strict_activities) j.passes) b; looked = looks }
  where
    looks : (m : Model) → Decoded s m (sections_of n places) → places.value.activities ≡ byte_at places.value.activities.byte → Looked s m names ids r.value w₃
    looks m d z =
        let ks : List Key = map (λ (c : Calendar). (0, c.name)) m.calendars in
        let c : Holds calendar s (record { count = n.value.calendars; at = head.calendars.byte }) m.calendars places.value.activities.byte =
        subst (λ (p : Place). Holds calendar s (record { count = n.value.calendars; at = p.byte }) m.calendars places.value.activities.byte) b.calendars_at d.calendars in
        let u : Run Activities s head.activities n.value.activities m.activities places.value.links.byte =
        subst (λ (p : Place). Run Activities s p n.value.activities m.activities places.value.links.byte) (sym z ∙ b.activities_at) (run Activities d.activities) in
        let x : TableFor 0 s ks names w₁ = i (λ (c : Calendar). (0, c.name)) calendar_key m.calendars _ c in
        let a : ApartFrom names ids = made_behind names ids e f (table_fits 0 s ks names w₁ x) in
        let y : TableFor 0 s ks names w₂ = table_kept 0 s ks names (made_kept names ids e a) x in
        let v : head.activities.bit % 8 ≡ 0 = ap (λ (p : Place). p.bit % 8) (sym b.activities_at ∙ z) in
        record { names = table_kept 0 s ks names (j.kept a) y; ids = ids_in ids e j v m.activities u; right = j.right a m _ c y _ u }

-- ---- the answer

module _ {s : List ℕ} {n : Counts} {v : Walked} {w w₃ : List ℕ} (c : (counts_in n, n.next) ≡ counts_at s start) (k : ModelWalked s n w w₃ v) {o : Option Sections} (e : o ≡ sections_by (length s) n v.places) where
  opens : Opens s o
  opens = rw e (opened c k.walks)

  pub no_model : o ≡ None → 6 ≡ check_answer s
  no_model z = refused opens z

  pub judged : {m : Sections} {b g : Bool} → o ≡ Some m → ((x : Model) → Decoded s x m → Looked s x v.tables.names v.tables.ids v.right w₃ → b ≡ keeps_list x) → b ≡ g
      → (if g then 0 else 7) ≡ check_answer s
  judged z h u = let a = opened_at c k.walks (sym z ∙ e) in checked opens z (λ x d. h x d (k.looked x (subst (Decoded s x) a.0 d) a.1)) u
