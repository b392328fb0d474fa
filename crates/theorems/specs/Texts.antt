-- The texts of minutes and of times are read back. Assumes nothing.
use Rattle.std.specs.Prelude.{◌≡◌, refl, Bool, true, false, [], ◌∷◌, ◌++◌, ℕ, ◌+◌, ◌*◌, ◌/◌, ◌%◌, ◌^◌, ◌≤◌, ◌<◌, Float}
use Rattle.std.specs.Prelude.{Ok}
use Rattle.std.proofs.Common.{ap, ◌∙◌, subst, append_assoc, arith, le-leb, lt-ltb, ne_eqb}
use Rattle.std.specs.Prelude.{Some}
use Rattle.std.specs.Float.{binary64}
use Rattle.std.specs.Float.Ieee.{round, mul, div}
use Rattle.definition.specs.Ascii.{bytes}
use Rattle.definition.specs.Text.{Text, trim, before, after, digits, digits_after}
use Rattle.definition.specs.Number.{zero_float, float, half_away}
use Rattle.definition.specs.Duration.{is_unit, set_unit, piece_of, time_figures, days_of, figures_of, total_of, most_minutes, duration_from, duration_of, decimal, duration_text}
use Rattle.definition.specs.Time.{most_time, is_colon, time_parts, time_of, two_digits, time_text}
use Rattle.definition.specs.declared.Figures.{Figures}
use Rattle.theorems.specs.Whole.{IsWhole, float_whole, le_whole, mul_whole, add_whole, half_away_whole, is_whole_whole}
use Rattle.theorems.specs.Laws.{before_append, after_append, plain_digit, trim_ends, digits_free, digits_two, float_zero, unsigned_digits, digits_decimal, piece_digits, figures_piece}

-- ---- minutes

-- the figures of so many hours and minutes
figures : Float → Float → Figures
figures h m = record { days = zero_float; hours = h; minutes = m; seconds = zero_float }

no_days : mul binary64 zero_float (float 1440) ≡ zero_float
unfolding mul round
no_days = refl

no_seconds : div binary64 zero_float (float 60) ≡ zero_float
unfolding div round
no_seconds = refl

total_whole : (h m : ℕ) → h * 60 + m ≤ most_minutes → total_of (figures (float h) (float m)) ≡ float (h * 60 + m)
unfolding total_of figures
total_whole h m l =
    let whole : (n : ℕ) → n ≤ most_minutes → IsWhole (float n) n = λ n k. float_whole n (omega arith) in
    rw (no_days, no_seconds, mul_whole (float h) (float 60) h 60 (whole h (omega arith)) (whole 60 (omega arith)))
    (rw (add_whole zero_float (float (h * 60)) 0 (h * 60) (refl, refl) (whole (h * 60) (omega arith)))
    (rw (add_whole (float (0 + h * 60)) (float m) (0 + h * 60) m (whole (0 + h * 60) (omega arith)) (whole m (omega arith)))
    (add_whole (float (0 + h * 60 + m)) zero_float (0 + h * 60 + m) 0 (whole (0 + h * 60 + m) (omega arith)) (refl, refl)
    ∙ ap float (omega arith))))

minutes_whole : (h m : ℕ) → h * 60 + m ≤ most_minutes → duration_from (figures (float h) (float m)) ≡ Ok (record { minutes = h * 60 + m; whole = true })
unfolding duration_from
minutes_whole h m l =
    let n = h * 60 + m in
    let w : IsWhole (float n) n = float_whole n (omega arith) in
    rw (total_whole h m l, le_whole (float n) (float most_minutes) n most_minutes w (float_whole most_minutes (omega arith)) l)
    (ap (λ (b : Bool). Ok (record { minutes = half_away (float n); whole = b })) (is_whole_whole (float n) n w)
    ∙ ap (λ (k : ℕ). Ok (record { minutes = k; whole = true })) (half_away_whole (float n) n w))

no_unit : (b : ℕ) → 48 ≤ b → b ≤ 57 → is_unit b ≡ false
no_unit b l u = rw (ne_eqb 72 b (λ e. omega arith), ne_eqb 77 b (λ e. omega arith), ne_eqb 83 b (λ e. omega arith))

piece_zero : piece_of (bytes "0") ≡ Ok zero_float
unfolding digits digits_after
piece_zero = piece_digits (bytes "0") 0 refl (omega arith) ∙ ap Ok float_zero

-- hours and minutes as a text
abbrev clock : Text → Text → Text
clock x y = bytes "PT" ++ (x ++ (bytes "H" ++ (y ++ bytes "M0S")))

figures_clock : (x y : Text) (h m : ℕ) → digits x ≡ Some h → digits y ≡ Some m → h < 10 ^ 15 → m < 10 ^ 15
    → figures_of (clock x y) ≡ Ok (figures (float h) (float m))
unfolding figures_of before after days_of time_figures set_unit figures
figures_clock x y h m p q a b =
    figures_piece 72 (y ++ bytes "M0S") [] (figures zero_float zero_float) (digits_free no_unit x h p) refl
    ∙ rw (piece_digits x h p a)
    (figures_piece 77 (bytes "0S") [] (figures (float h) zero_float) (digits_free no_unit y m q) refl
    ∙ rw (piece_digits y m q b, piece_zero))

trim_clock : (x y : Text) → trim (clock x y) ≡ clock x y
trim_clock x y =
    let inner = bytes "T" ++ (x ++ (bytes "H" ++ (y ++ bytes "M0"))) in
    let e : 80 ∷ (inner ++ bytes "S") ≡ clock x y = simp append_assoc in
    subst (λ (t : Text). trim t ≡ t) e (trim_ends 80 inner 83 (record { ascii = omega arith; black = refl }) (record { ascii = omega arith; black = refl }))

-- the text of minutes is read back, as whole minutes
pub duration_back : (n : ℕ) → n ≤ most_minutes → duration_of (duration_text n) ≡ Ok (record { minutes = n; whole = true })
unfolding duration_of duration_text
duration_back n l =
    let h = n / 60 in
    let m = n % 60 in
    let x = digits_decimal h (omega arith) in
    let y = digits_decimal m (omega arith) in
    rw (trim_clock (decimal h) (decimal m), figures_clock (decimal h) (decimal m) h m x y (omega arith) (omega arith))
    (minutes_whole h m (omega arith) ∙ ap (λ (k : ℕ). Ok (record { minutes = k; whole = true })) (omega arith))

-- ---- times

no_colon : (b : ℕ) → 48 ≤ b → b ≤ 57 → is_colon b ≡ false
no_colon b l u = ne_eqb 58 b (λ e. omega arith)

-- hours, a colon, minutes, a colon, and what is not read
pub time_parts_lem : (x y z : Text) (h m : ℕ) → digits x ≡ Some h → digits y ≡ Some m → h ≤ 24 → m < 60 → h * 60 + m ≤ most_time
    → time_parts (x ++ (bytes ":" ++ (y ++ (bytes ":" ++ z)))) ≡ Some (h * 60 + m)
unfolding time_parts
time_parts_lem x y z h m p q a b l =
    let x_free = digits_free no_colon x h p in
    let y_free = digits_free no_colon y m q in
    rw (before_append 58 (y ++ (58 ∷ z)) x_free refl, after_append 58 (y ++ (58 ∷ z)) x_free refl, before_append 58 z y_free refl)
    (rw (unsigned_digits 16 x h p (omega arith), unsigned_digits 16 y m q (omega arith))
    (rw (le-leb h 24 a, lt-ltb m 60 b, le-leb (h * 60 + m) most_time l)))

-- the text of a time is read back
pub time_back : (t : ℕ) → t ≤ most_time → time_of (time_text t) ≡ Some t
unfolding time_of time_text
time_back t l =
    let h = t / 60 in
    let m = t % 60 in
    let inner = (h % 10 + 48) ∷ (bytes ":" ++ (two_digits m ++ bytes ":0")) in
    rw (trim_ends (h / 10 + 48) inner 48 (plain_digit (h / 10 + 48) (omega arith) (omega arith)) (plain_digit 48 (omega arith) (omega arith)))
    (time_parts_lem (two_digits h) (two_digits m) (bytes "00") h m (digits_two h (omega arith)) (digits_two m (omega arith)) (omega arith) (omega arith) (omega arith)
    ∙ ap Some (omega arith))
