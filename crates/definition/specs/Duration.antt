-- Durations. ISO 8601 and MSPDI: `P`, days before `T`, then hours, minutes and seconds; days are 24 hours. Document 01, `duration_of`: the
-- four figures of a text are held together until days × 1440 + hours × 60 + minutes + seconds / 60 is summed in f64, left to right;
-- above 1e9 is none, else rounded, halves away from zero. A repeated unit overwrites. `P` and `PT` are 0; `P1Y`, `PT5`, a piece below 0 are
-- none. Pieces go left to right; an ill-formed one ends the reading with none, and a piece too long is refused. Document 02, E2: the reading answers
-- two things, the minutes, and whether that f64 sum was a whole number before it was rounded. Assumes nothing.
use Rattle.definition.specs.declared.Duration.{Duration}
use Rattle.std.specs.Prelude.{if◌then◌else◌, ℕ, zero, suc, ◌+◌, ◌/◌, ◌%◌, Bool, ◌||◌, [], ◌∷◌, ◌++◌, ltb, eqb, Float}
use Rattle.definition.specs.declared.Unread.TheVariants.{Absent, Long}
use Rattle.std.specs.Prelude.{Err, Ok}
use Rattle.std.specs.Float.{binary64}
use Rattle.std.specs.Float.Ieee.{add, mul, div, le}
use Rattle.definition.specs.Base.{◌or◌, same}
use Rattle.definition.specs.Ascii.{bytes}
use Rattle.definition.specs.Text.{Text, trim, before, after}
use Rattle.definition.specs.Number.{Reading, number_of, half_away, is_whole, float, zero_float}
use Rattle.definition.specs.declared.Figures.{Figures}

-- ---- the figures

abbrev pub is_h : ℕ → Bool
is_h = eqb 72

abbrev pub is_m : ℕ → Bool
is_m = eqb 77

abbrev pub is_s : ℕ → Bool
is_s = eqb 83

abbrev pub is_unit : ℕ → Bool
is_unit b = is_h b || (is_m b || is_s b)

-- the figure of a unit, set
unfoldable pub set_unit : ℕ → Float → Figures → Figures
set_unit unit x f =
    if is_h unit then record { days = f.days; hours = x; minutes = f.minutes; seconds = f.seconds } else
    if is_m unit then record { days = f.days; hours = f.hours; minutes = x; seconds = f.seconds } else
    record { days = f.days; hours = f.hours; minutes = f.minutes; seconds = x }

abbrev pub not_below_zero : Reading Float → Reading Float
not_below_zero (Err Absent) = Err Absent
not_below_zero (Err Long) = Err Long
not_below_zero (Ok x) = if le zero_float x then Ok x else Err Absent

-- a piece without its unit: a number that is not below 0
unfoldable pub piece_of : Text → Reading Float
piece_of s = not_below_zero (number_of s)

infixl 12 ◌then◌
abbrev pub ◌then◌ : {A B : Type 0} → Reading A → (A → Reading B) → Reading B
(Err Absent) then f = Err Absent
(Err Long) then f = Err Long
Ok a then f = f a

-- the figures that the rest of a time part gives, where `part` was read since the last unit
unfoldable pub time_figures : Text → Text → Figures → Reading Figures
time_figures [] [] f = Ok f
time_figures [] (p ∷ part) f = Err Absent
time_figures (b ∷ s) part f =
    if is_unit b then (piece_of part then λ x. time_figures s [] (set_unit b x f)) else time_figures s (part ++ (b ∷ [])) f

-- the part before `T`: nothing, or a number and `D`
abbrev pub is_d : ℕ → Bool
is_d = eqb 68

unfoldable pub days_of : Text → Reading Float
days_of [] = Ok zero_float
days_of (b ∷ s) = if same (before is_d (b ∷ s) ++ bytes "D") (b ∷ s) then piece_of (before is_d (b ∷ s)) else Err Absent

abbrev pub day_figures : Float → Figures
day_figures d = record { days = d; hours = zero_float; minutes = zero_float; seconds = zero_float }

abbrev pub is_t : ℕ → Bool
is_t = eqb 84

unfoldable pub figures_of : Text → Reading Figures
figures_of [] = Err Absent
figures_of (b ∷ s) =
    if eqb b 80 then (days_of (before is_t s) then λ d. time_figures (after is_t s or []) [] (day_figures d)) else Err Absent

-- ---- the minutes

unfoldable pub total_of : Figures → Float
total_of f =
    add binary64
    (add binary64 (add binary64 (mul binary64 f.days (float 1440)) (mul binary64 f.hours (float 60))) f.minutes)
    (div binary64 f.seconds (float 60))

-- the most minutes
abbrev pub most_minutes : ℕ
most_minutes = 1000000000

-- a sum rounded to minutes, and whether it was whole
abbrev pub duration_at : Float → Duration
duration_at x = record { minutes = half_away x; whole = is_whole x }

unfoldable pub duration_from : Figures → Reading Duration
duration_from f = if le (total_of f) (float most_minutes) then Ok (duration_at (total_of f)) else Err Absent

unfoldable pub duration_of : Text → Reading Duration
duration_of s = figures_of (trim s) then duration_from

-- ---- the text of minutes

-- a number in decimal; below 10 ^ 20
unfoldable pub decimal_up : ℕ → ℕ → Text
decimal_up zero n = []
decimal_up (suc k) n = if ltb n 10 then (n + 48) ∷ [] else decimal_up k (n / 10) ++ ((n % 10 + 48) ∷ [])

abbrev pub decimal : ℕ → Text
decimal n = decimal_up 20 n

unfoldable pub duration_text : ℕ → Text
duration_text n = bytes "PT" ++ (decimal (n / 60) ++ (bytes "H" ++ (decimal (n % 60) ++ bytes "M0S")))
