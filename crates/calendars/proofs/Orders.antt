-- Calendars in the order in which they are built: what is built so far is the front of the whole, and a row in the order is a row of what is
-- built. Assumes nothing.
use Rattle.std.specs.Prelude.{if◌then◌else◌}
use Rattle.std.proofs.Common.{◌≡◌, ℕ, zero, suc, ◌+◌, ◌<◌, ◌≤◌, Bool, true, false, not, List, [], ◌∷◌, ◌++◌, map, length, sym, refl, ap, ◌∙◌, true≢false, append_assoc, append-nil, zero-add, arith, length-append}
use mathlib.Core.List.{map-append}
use Rattle.std.specs.Prelude.{Option, Some, None}
use Rattle.std.specs.Prelude.{slice_get}
use lib.ListN.{length-map}
use Rattle.definition.specs.Base.{◌>>=◌, ◌or◌, ◌or_else◌, when, given, keep, find, first, numbered, same}
use Rattle.definition.specs.Ascii.{bytes}
use Rattle.definition.specs.Text.{Text}
use Rattle.definition.specs.Field.{text_in}
use Rattle.definition.specs.Tree.{Element}
use Rattle.definition.specs.Model.{Calendar}
use Rattle.definition.specs.Calendar.{Named, base_of, with_uid, build, built_calendars, main_calendar, calendar_of, renamed, free, default_calendar}
use Rattle.laws.specs.Options.{never}
use Rattle.tree.specs.declared.element.Element.{Element as Of}
use Rattle.rows.specs.Rows.{has_uid, in_order, with_uid_in, main_in, calendar_meaning}
use Rattle.calendars.specs.Built.{built_of, found_or, base_in}
use Rattle.laws.specs.FitNames.{added_to, calendars_in, names_in, build_length}

-- ---- one after another

pub build_both : (built : List Named) (xs ys : List Element) → build built (xs ++ ys) ≡ build (build built xs) ys
unfolding build
build_both built [] ys = refl
build_both built (x ∷ xs) ys = build_both (built ++ (added_to built x ∷ [])) xs ys

pub built_in_order : (root : Element) → built_calendars root ≡ build [] (in_order root)
unfolding built_calendars in_order
built_in_order root = sym (build_both [] _ _)

-- the calendar of one more
abbrev pub made : List Element → Element → Calendar
made done e = renamed (free (names_in (build [] done)) (calendar_of e (base_in done e)).name) (calendar_of e (base_in done e))

pub built_more : (done : List Element) (e : Element) → built_of (done ++ (e ∷ [])) ≡ built_of done ++ (made done e ∷ [])
unfolding build
built_more done e = ap calendars_in (build_both [] done (e ∷ [])) ∙ map-append _ (build [] done) _

-- ---- UIDs

abbrev uid_of : Element → Text
uid_of e = text_in e "UID" or []

abbrev uids_in : List Named → List Text
uids_in built = map (λ (n : Named). n.0) built

uids_build : (built : List Named) (es : List Element) → uids_in (build built es) ≡ uids_in built ++ map uid_of es
unfolding build
uids_build built [] = sym (append-nil (uids_in built))
uids_build built (e ∷ es) = uids_build (built ++ (added_to built e ∷ [])) es ∙ ap (λ (l : List Text). l ++ map uid_of es) (map-append _ built _) ∙ append_assoc (uids_in built) _ _

size_of : (es : List Element) → length (build [] es) ≡ length es
size_of es = build_length [] es ∙ zero-add (length es)

pub of_length : (es : List Element) → length (built_of es) ≡ length es
of_length es = length-map (build [] es) _ ∙ size_of es

-- ---- rows

get_seam : {A : Type 0} (front : List A) (x : A) (l : List A) → slice_get (front ++ (x ∷ l)) (length front) ≡ Some x
get_seam [] x l = refl
get_seam (y ∷ front) x l = get_seam front x l

pub get_out : {A : Type 0} (l : List A) (k : ℕ) → length l ≤ k → slice_get l k ≡ None
get_out [] k h = refl
get_out (x ∷ l) zero h = absurd (omega arith)
get_out (x ∷ l) (suc k) h = get_out l k (omega arith)

pub get_in : {A : Type 0} (l : List A) (k : ℕ) → k < length l → (x : A) × (slice_get l k ≡ Some x)
get_in [] k h = absurd (omega arith)
get_in (x ∷ l) zero h = (x, refl)
get_in (y ∷ l) (suc k) h = get_in l k (omega arith)

-- a row that was found lies in the rows
record Within (n m k : ℕ) : Type 0 where
  from : n ≤ k
  below : k < n + m

find_within : {A : Type 0} (test : ℕ × A → Bool) (n : ℕ) (l : List A) (x : ℕ × A) → find test (numbered n l) ≡ Some x → Within n (length l) x.0
unfolding first keep numbered
find_within test n [] x e = never e
find_within {A} test n (y ∷ l) x e = by_test (test (n, y)) (find_within test (suc n) l x) e
  where
    by_test : (t : Bool) → (find test (numbered (suc n) l) ≡ Some x → Within (suc n) (length l) x.0) → first (if t then (n, y) ∷ keep test (numbered (suc n) l) else keep test (numbered (suc n) l)) ≡ Some x → Within n (suc (length l)) x.0
    by_test true h e =
        let z : ◌≡◌ {A = ℕ × A} (n, y) x = cc in
        let w : n ≡ x.0 = ap (λ (p : ℕ × A). p.0) z in
        record { from = omega arith; below = omega arith }
    by_test false h e = let w = h e in record { from = omega (arith, w.from); below = omega (arith, w.below) }

-- ---- a UID in what is built

bound_none : {A B : Type 0} (o : Option A) (f : A → Option B) → ((x : A) → o ≡ Some x → f x ≡ None) → (o >>= f) ≡ None
bound_none None f h = refl
bound_none (Some x) f h = h x refl

with_row : (u : Text) (front : List Calendar) (built : List Named) (es todo : List Element) → uids_in built ≡ map uid_of es
    → with_uid u built ≡ (find (λ (x : ℕ × Element). has_uid u x.1) (numbered (length front) (es ++ todo)) >>= λ x. slice_get (front ++ calendars_in built) x.0)
unfolding first keep numbered
with_row u front [] [] todo e =
    sym (bound_none (find (λ (x : ℕ × Element). has_uid u x.1) (numbered (length front) todo)) _
    (λ x z. let w = find_within (λ (x : ℕ × Element). has_uid u x.1) (length front) todo x z in get_out (front ++ []) x.0 (rw (append-nil front) w.from)))
with_row u front [] (y ∷ es) todo e = absurd (let z : 0 ≡ suc (length (map uid_of es)) = ap length e in omega arith)
with_row u front (b ∷ built) [] todo e = absurd (let z : suc (length (uids_in built)) ≡ 0 = ap length e in omega arith)
with_row u front (b ∷ built) (y ∷ es) todo e =
    let tails : uids_in built ≡ map uid_of es = cc in
    let head : b.0 ≡ uid_of y = cc in
    by_test (same b.0 u) (same (uid_of y) u) (ap (λ (t : Text). same t u) head) (with_row u (front ++ (b.1 ∷ [])) built es todo tails)
  where
    rest : List (ℕ × Element)
    rest = keep (λ (x : ℕ × Element). has_uid u x.1) (numbered (suc (length front)) (es ++ todo))

    longer : length (front ++ (b.1 ∷ [])) ≡ suc (length front)
    longer = length-append front (b.1 ∷ []) ∙ omega arith

    by_test : (t s : Bool) → t ≡ s
        → with_uid u built ≡ (find (λ (x : ℕ × Element). has_uid u x.1) (numbered (length (front ++ (b.1 ∷ []))) (es ++ todo)) >>= λ x. slice_get ((front ++ (b.1 ∷ [])) ++ calendars_in built) x.0)
        → (first (if t then b ∷ keep (λ (x : Named). same x.0 u) built else keep (λ (x : Named). same x.0 u) built) >>= λ x. Some x.1)
        ≡ (first (if s then (length front, y) ∷ rest else rest) >>= λ x. slice_get (front ++ (b.1 ∷ calendars_in built)) x.0)
    by_test true true z h = sym (get_seam front b.1 (calendars_in built))
    by_test true false z h = absurd (true≢false z)
    by_test false true z h = absurd (true≢false (sym z))
    by_test false false z h = h ∙ rw (longer, append_assoc front (b.1 ∷ []) (calendars_in built))

-- the first that is built with a UID, by its row in the whole order
found_row : (root : Element) (u : Text) (done todo : List Element) → in_order root ≡ done ++ todo → with_uid u (build [] done) ≡ (with_uid_in root u >>= λ x. slice_get (built_of done) x.0)
found_row root u done todo e = with_row u [] (build [] done) done todo (uids_build [] done) ∙ rw e

pub found_base : (root : Element) (u : Text) (done todo : List Element) → in_order root ≡ done ++ todo → (found : Option (ℕ × Of)) → calendar_meaning found ≡ with_uid_in root u
    → (with_uid u (build [] done) or default_calendar) ≡ found_or (built_of done) found
unfolding calendar_meaning
found_base root u done todo e (Some (row, at)) z =
    let w : with_uid u (build [] done) ≡ slice_get (built_of done) row = found_row root u done todo e ∙ rw (← z) in
    ap (λ (o : Option Calendar). o or default_calendar) w
found_base root u done todo e None z =
    let w : with_uid u (build [] done) ≡ None = found_row root u done todo e ∙ rw (← z) in
    ap (λ (o : Option Calendar). o or default_calendar) w

-- a base that is given
pub base_given : (e : Element) → given (base_of e) ≡ true → base_of e ≡ Some (text_in e "BaseCalendarUID" or [])
base_given e h = by_text (text_in e "BaseCalendarUID") h
  where
    by_minus : (t : Bool) (u : Text) → given (when t u) ≡ true → when t u ≡ Some u
    by_minus true u h = refl
    by_minus false u h = absurd (true≢false (sym h))

    by_text : (o : Option Text) → given (o >>= λ u. when (not (same u (bytes "-1"))) u) ≡ true → (o >>= λ u. when (not (same u (bytes "-1"))) u) ≡ Some (o or [])
    by_text None h = absurd (true≢false (sym h))
    by_text (Some u) h = by_minus (not (same u (bytes "-1"))) u h

pub no_base : (e : Element) → given (base_of e) ≡ false → base_of e ≡ None
no_base e h = by_base (base_of e) h
  where
    by_base : (o : Option Text) → given o ≡ false → o ≡ None
    by_base None h = refl
    by_base (Some u) h = absurd (true≢false h)

-- ---- the main one

module _ (root : Element) where
  abbrev whole : List Named
  whole = build [] (in_order root)

  found_in : (u : Text) → with_uid u whole ≡ (with_uid_in root u >>= λ x. slice_get (calendars_in whole) x.0)
  found_in u = found_row root u (in_order root) [] (sym (append-nil (in_order root)))

  first_row : (es : List Element) (built : List Named) → length built ≡ length es → (row : ℕ) (e : Element) → first (numbered 0 es) ≡ Some (row, e)
      → (c : Calendar) × (((first built >>= λ x. Some x.1) ≡ Some c) × (slice_get (calendars_in built) row ≡ Some c))
  unfolding first numbered
  first_row [] built n row e z = never z
  first_row (y ∷ es) [] n row e z = absurd (omega arith)
  first_row (y ∷ es) (b ∷ built) n row e z =
      let w : ◌≡◌ {A = ℕ × Element} (0, y) (row, e) = cc in
      let v : 0 ≡ row = ap (λ (x : ℕ × Element). x.0) w in
      (b.1, (refl, ap (λ (k : ℕ). slice_get (b.1 ∷ calendars_in built) k) (sym v)))

  by_first : (row : ℕ) (e : Element) (o : Option Calendar) → o ≡ None → first (numbered 0 (in_order root)) ≡ Some (row, e)
      → slice_get (calendars_in whole) row ≡ Some ((o or_else (first whole >>= λ x. Some x.1)) or default_calendar)
  by_first row e o z f =
      let (c, (a, b)) = first_row (in_order root) whole (size_of (in_order root)) row e f in
      b ∙ rw (z, a)

  pub main_row_lem : (row : ℕ) (e : Element) → main_in root ≡ Some (row, e) → slice_get (calendars_in whole) row ≡ Some (main_calendar root whole)
  unfolding main_in main_calendar
  main_row_lem row e h = by_uid (text_in root "CalendarUID") h
    where
      by_row : (u : Text) (o : Option (ℕ × Element)) → with_uid_in root u ≡ o → o or_else first (numbered 0 (in_order root)) ≡ Some (row, e)
          → slice_get (calendars_in whole) row ≡ Some ((with_uid u whole or_else (first whole >>= λ x. Some x.1)) or default_calendar)
      by_row u None z k = by_first row e (with_uid u whole) (found_in u ∙ rw z) k
      by_row u (Some x) z k =
          let w : ◌≡◌ {A = ℕ × Element} x (row, e) = cc in
          let v : x.0 ≡ row = ap (λ (y : ℕ × Element). y.0) w in
          let b = find_within (λ (x : ℕ × Element). has_uid u x.1) 0 (in_order root) x z in
          let (c, g) = get_in (calendars_in whole) row (rw (of_length (in_order root)) (omega (arith, b.below))) in
          let t : with_uid u whole ≡ Some c = found_in u ∙ rw z (ap (slice_get (calendars_in whole)) v ∙ g) in
          g ∙ rw t

      by_uid : (o : Option Text) → (o >>= with_uid_in root) or_else first (numbered 0 (in_order root)) ≡ Some (row, e)
          → slice_get (calendars_in whole) row ≡ Some (((o >>= λ u. with_uid u whole) or_else (first whole >>= λ x. Some x.1)) or default_calendar)
      by_uid None k = by_first row e None refl k
      by_uid (Some u) k = by_row u (with_uid_in root u) refl k

  pub main_none : main_in root ≡ None → in_order root ≡ []
  unfolding main_in first numbered
  main_none h = by_order (in_order root) (by_uid (text_in root "CalendarUID" >>= with_uid_in root) h)
    where
      by_uid : (o : Option (ℕ × Element)) → o or_else first (numbered 0 (in_order root)) ≡ None → first (numbered 0 (in_order root)) ≡ None
      by_uid None k = k
      by_uid (Some x) k = never (sym k)

      by_order : (es : List Element) → first (numbered 0 es) ≡ None → es ≡ []
      by_order [] k = refl
      by_order (e ∷ es) k = never (sym k)
