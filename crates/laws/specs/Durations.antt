-- The figures of a duration text are not below 0, so their total is not, and its minutes are at most 10 ^ 9. Assumes nothing.
use Rattle.std.specs.Prelude.{if◌then◌else◌, ◌≡◌, refl, Bool, true, false, ◌&&◌, [], ◌∷◌, ◌++◌, ℕ, ◌≤◌, T, eqb, pos, Float}
use Rattle.definition.specs.declared.Unread.TheVariants.{Absent, Long}
use Rattle.std.specs.Prelude.{Err, Ok}
use Rattle.std.proofs.Common.{sym, ap, ◌∙◌, subst}
use Prim.Native.String.{String}
use Rattle.std.specs.Float.{fin, binary64}
use Rattle.std.specs.Float.Ieee.{add, mul, div, le, lt, eq}
use Rattle.std.specs.Float.Ieee.Fits.{and_i, and_l, and_r}
use Rattle.definition.specs.Base.{◌or◌, same}
use Rattle.definition.specs.Text.{Text, before, after, trim}
use Rattle.definition.specs.Number.{Reading, float, zero_float, number_of, found}
use Rattle.definition.specs.declared.Duration.{Duration}
use Rattle.definition.specs.Duration.{is_unit, is_d, is_t, set_unit, not_below_zero, piece_of, ◌then◌, time_figures, days_of, day_figures, figures_of, total_of, most_minutes, duration_at, duration_from, duration_of}
use Rattle.definition.specs.Tree.{Element}
use Rattle.definition.specs.Field.{text_in, minutes_in}
use Rattle.definition.specs.declared.Figures.{Figures}
use Rattle.laws.specs.Floats.{bound, float_60, float_1440, float-10⁹, add_sound, mul_sound, div_sound, of_le, to_le}
use Rattle.laws.specs.FitLists.{Perhaps, missing, there, perhaps_bind, perhaps_any}

-- figures none of which is below 0
abbrev pub not_below : Figures → Bool
not_below f = le zero_float f.days && (le zero_float f.hours && (le zero_float f.minutes && le zero_float f.seconds))

abbrev pub none_below : Reading Figures → Bool
none_below (Err Absent) = true
none_below (Err Long) = true
none_below (Ok f) = not_below f

-- ---- no figure is below 0
abbrev least : Reading Float → Bool
least (Err Absent) = true
least (Err Long) = true
least (Ok x) = le zero_float x

piece_least : (s : Text) → T (least (piece_of s))
unfolding piece_of
piece_least s = go (number_of s)
  where
    pick : (x : Float) (t : Bool) → le zero_float x ≡ t → T (least (if t then Ok x else (Err Absent)))
    pick x true e = subst T (sym e) tt
    pick x false e = tt

    go : (r : Reading Float) → T (least (not_below_zero r))
    go (Err Absent) = tt
    go (Err Long) = tt
    go (Ok x) = pick x (le zero_float x) refl

zero_least : T (le zero_float zero_float)
unfolding le lt eq
zero_least = tt

pub record Least (f : Figures) : Type 0 where
  pub days : T (le zero_float f.days)
  pub hours : T (le zero_float f.hours)
  pub minutes : T (le zero_float f.minutes)
  pub seconds : T (le zero_float f.seconds)

pub of_test : (f : Figures) → T (not_below f) → Least f
of_test f t =
    let d = le zero_float f.days in
    let h = le zero_float f.hours in
    let m = le zero_float f.minutes in
    let s = le zero_float f.seconds in
    let hms = and_r d (h && (m && s)) t in
    let ms = and_r h (m && s) hms in
    record { days = and_l d (h && (m && s)) t; hours = and_l h (m && s) hms; minutes = and_l m s ms; seconds = and_r m s ms }

to_test : (f : Figures) → Least f → T (not_below f)
to_test f l =
    and_i (le zero_float f.days) _ l.days
    (and_i (le zero_float f.hours) _ l.hours (and_i (le zero_float f.minutes) (le zero_float f.seconds) l.minutes l.seconds))

set_least : (b : ℕ) (x : Float) (f : Figures) → T (le zero_float x) → T (not_below f) → T (not_below (set_unit b x f))
unfolding set_unit
set_least b x f p q = go (eqb 72 b) (eqb 77 b)
  where
    l : Least f
    l = of_test f q

    go : (h m : Bool) → T (not_below (if h then record { days = f.days; hours = x; minutes = f.minutes; seconds = f.seconds } else
        if m then record { days = f.days; hours = f.hours; minutes = x; seconds = f.seconds } else record { days = f.days; hours = f.hours; minutes = f.minutes; seconds = x }))
    go true m = to_test _ (record { days = l.days; hours = p; minutes = l.minutes; seconds = l.seconds })
    go false true = to_test _ (record { days = l.days; hours = l.hours; minutes = p; seconds = l.seconds })
    go false false = to_test _ (record { days = l.days; hours = l.hours; minutes = l.minutes; seconds = p })

time_least : (s part : Text) (f : Figures) → T (not_below f) → T (none_below (time_figures s part f))
unfolding time_figures
time_least [] [] f q = q
time_least [] (p ∷ part) f q = tt
time_least (b ∷ s) part f q = go (is_unit b) (piece_of part) (piece_least part) (λ x p. time_least s [] (set_unit b x f) (set_least b x f p q)) (time_least s (part ++ (b ∷ [])) f q)
  where
    go : (t : Bool) (r : Reading Float) → T (least r) → ((x : Float) → T (le zero_float x) → T (none_below (time_figures s [] (set_unit b x f)))) → T (none_below (time_figures s (part ++ (b ∷ [])) f))
        → T (none_below (if t then (r then λ x. time_figures s [] (set_unit b x f)) else time_figures s (part ++ (b ∷ [])) f))
    go true (Err Absent) l h k = tt
    go true (Err Long) l h k = tt
    go true (Ok x) l h k = h x l
    go false r l h k = k

days_least : (s : Text) → T (least (days_of s))
unfolding days_of le lt eq
days_least [] = tt
days_least (b ∷ s) = go (same (before is_d (b ∷ s) ++ (68 ∷ [])) (b ∷ s))
  where
    go : (t : Bool) → T (least (if t then piece_of (before is_d (b ∷ s)) else (Err Absent)))
    go true = piece_least (before is_d (b ∷ s))
    go false = tt

pub figures_least : (s : Text) → T (none_below (figures_of s))
unfolding figures_of
figures_least [] = tt
figures_least (b ∷ s) = go (eqb b 80) (days_of (before is_t s)) (days_least (before is_t s))
  where
    start : (d : Float) → T (le zero_float d) → T (not_below (day_figures d))
    start d p = to_test (day_figures d) (record { days = p; hours = zero_least; minutes = zero_least; seconds = zero_least })

    go : (t : Bool) (r : Reading Float) → T (least r) → T (none_below (if t then (r then λ d. time_figures (after is_t s or []) [] (day_figures d)) else (Err Absent)))
    go true (Err Absent) l = tt
    go true (Err Long) l = tt
    go true (Ok d) l = time_least (after is_t s or []) [] (day_figures d) (start d l)
    go false r l = tt

-- ---- the total
pub total_is : (f : Figures)
    → total_of f
    ≡ add binary64 (add binary64 (add binary64 (mul binary64 f.days (fin false 45 (pos 5))) (mul binary64 f.hours (fin false 15 (pos 2)))) f.minutes) (div binary64 f.seconds (fin false 15 (pos 2)))
unfolding total_of
total_is f =
    ap (λ (x : Float). add binary64 (add binary64 (add binary64 (mul binary64 f.days x) (mul binary64 f.hours (float 60))) f.minutes) (div binary64 f.seconds (float 60))) float_1440
    ∙ ap (λ (x : Float). add binary64 (add binary64 (add binary64 (mul binary64 f.days (fin false 45 (pos 5))) (mul binary64 f.hours x)) f.minutes) (div binary64 f.seconds x)) float_60

pub total_least : (f : Figures) → T (not_below f) → T (le zero_float (total_of f))
total_least f t =
    let l = of_test f t in
    subst (λ (x : Float). T (le zero_float x)) (sym (total_is f))
    (to_le _
    (add_sound _ _
    (add_sound _ _ (add_sound _ _ (mul_sound f.days 44 (pos 5) (of_le f.days l.days)) (mul_sound f.hours 14 (pos 2) (of_le f.hours l.hours))) (of_le f.minutes l.minutes))
    (div_sound f.seconds 14 (pos 2) (of_le f.seconds l.seconds))))

-- ---- up to 10 ^ 9

found_most : (f : Figures) → T (not_below f) → (t : Bool) → le (total_of f) (float most_minutes) ≡ t
    → Perhaps (λ (d : Duration). d.minutes ≤ most_minutes) (found (if t then Ok (duration_at (total_of f)) else (Err Absent)))
found_most f h true e = there (bound 1953125 9 (total_of f) (total_least f h) (subst (λ (x : Float). T (le (total_of f) x)) float-10⁹ (subst T (sym e) tt)))
found_most f h false e = missing

pub duration_most : (s : Text) → Perhaps (λ (d : Duration). d.minutes ≤ most_minutes) (found (duration_of s))
unfolding duration_of duration_from
duration_most s = by (figures_of (trim s)) (figures_least (trim s))
  where
    by : (r : Reading Figures) → T (none_below r) → Perhaps (λ (d : Duration). d.minutes ≤ most_minutes) (found (r then duration_from))
    by (Err Absent) h = missing
    by (Err Long) h = missing
    by (Ok f) h = found_most f h (le (total_of f) (float most_minutes)) refl

pub minutes_most : (e : Element) (n : String) → Perhaps (λ m. m ≤ most_minutes) (minutes_in e n)
unfolding minutes_in
minutes_most e n = perhaps_bind (perhaps_any (text_in e n) duration_most) (λ d h. there h)
