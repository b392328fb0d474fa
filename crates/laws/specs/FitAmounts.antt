-- Amounts fit a number of 64 bits: hundredths that are kept, and minutes. Assumes nothing.
use Rattle.std.specs.Prelude.{if◌then◌else◌, ◌≡◌, refl, Bool, true, false, ◌&&◌, not, ℕ, zero, suc, ◌+◌, ◌*◌, ◌/◌, ◌%◌, ◌^◌, ◌≤◌, ◌<◌, min, T, eqb, ℤ, pos, negsuc, neg_ℤ, nat_abs, Float}
use Rattle.std.proofs.Common.{sym, subst, div-le_self, arith}
use Prim.Native.String.{String}
use Rattle.std.specs.Float.{nan, inf, fin, binary64}
use Rattle.std.specs.Float.Ieee.{mul, neg, le, lt}
use Rattle.std.specs.Float.Ieee.Fits.{and_l, and_r}
use Rattle.definition.specs.Number.{half_away, nearest_whole, float, zero_float, between, hundredths}
use Rattle.definition.specs.Duration.{most_minutes}
use Rattle.definition.specs.Tree.{Element}
use Rattle.definition.specs.Field.{number_in}
use Rattle.definition.specs.Task.{percent_from, duration_days, duration_minutes}
use Rattle.definition.specs.Link.{held_by, cut}
use Rattle.definition.specs.Resource.{units_from, price_from, money_from, money_in, hours_in}
use Rattle.laws.specs.FitRecords.{IsNumber}
use Rattle.laws.specs.FitLists.{Perhaps, there, perhaps_when, perhaps_bind, perhaps_any}
use Rattle.laws.specs.Floats.{Within, hundred, bound, le_neg, zero_below, float-10¹⁸, of_lt, up_to_lem, above_0, from_zero, most}
use Rattle.laws.specs.Durations.{minutes_most}

-- ---- whole numbers

pub signed_neg : (n : ℕ) → n ≤ 10 ^ 18 → IsNumber (neg_ℤ (pos n))
signed_neg zero h = omega arith
signed_neg (suc n) h = omega arith

-- the nearest whole number of a float from -10 ^ 18 to 10 ^ 18
half_most : (m : ℕ) (e : ℤ) → T (le (fin false m e) most) → half_away (fin false m e) ≤ 10 ^ 18
half_most m e h = bound 3814697265625 18 (fin false m e) (zero_below (fin false m e) tt) (subst (λ (x : Float). T (le (fin false m e) x)) float-10¹⁸ h)

pub whole_number : (y : Float) → Within y → IsNumber (nearest_whole y)
unfolding nearest_whole neg half_away
whole_number nan h = omega arith
whole_number (inf s) h = omega arith
whole_number (fin false m e) h = omega (arith, half_most m e h.high)
whole_number (fin true m e) h = signed_neg (half_away (fin false m e)) (half_most m e (subst T (le_neg most (fin false m e)) h.low))

-- ---- hundredths

-- from -10 ^ 13 to 10 ^ 13
pub hundredths_number : (x : Float) → T (le (neg (float (10 ^ 13))) x) → T (le x (float (10 ^ 13))) → IsNumber (hundredths x)
hundredths_number x l h = whole_number (mul binary64 x (float 100)) (hundred x l h)

-- where both tests hold
kept : (x : Float) (a b : Bool) → (T a → T (le (neg (float (10 ^ 13))) x)) → (T b → T (le x (float (10 ^ 13)))) → (a && b) ≡ true → IsNumber (hundredths x)
kept x a b l h e = let t : T (a && b) = subst T (sym e) tt in hundredths_number x (l (and_l a b t)) (h (and_r a b t))

pub percent_number : (x : Float) → Perhaps IsNumber (percent_from x)
percent_number x =
    perhaps_when (lt zero_float x && le x (float 100)) (hundredths x)
    (kept x (lt zero_float x) (le x (float 100)) (above_0 x (10 ^ 13)) (up_to_lem x 100 (10 ^ 13) (omega arith)))

pub units_number : (x : Float) → Perhaps IsNumber (units_from x)
units_number x =
    perhaps_when (between 0 1000000 x) (hundredths x)
    (kept x (le (float 0) x) (le x (float 1000000)) (from_zero x 0 (10 ^ 13)) (up_to_lem x 1000000 (10 ^ 13) (omega arith)))

pub price_number : (x : Float) → Perhaps IsNumber (price_from x)
price_number x =
    perhaps_when (lt zero_float x && lt x (float (10 ^ 13))) (hundredths x)
    (kept x (lt zero_float x) (lt x (float (10 ^ 13))) (above_0 x (10 ^ 13)) (of_lt x (float (10 ^ 13))))

money_number : (x : Float) → Perhaps IsNumber (money_from x)
money_number x =
    perhaps_when (lt (neg (float (10 ^ 13))) x && lt x (float (10 ^ 13))) (hundredths x)
    (kept x (lt (neg (float (10 ^ 13))) x) (lt x (float (10 ^ 13))) (of_lt (neg (float (10 ^ 13))) x) (of_lt x (float (10 ^ 13))))

pub money_in_lem : (a : Element) (n : String) → Perhaps IsNumber (money_in a n)
money_in_lem a n = perhaps_any (number_in a n) money_number

-- ---- minutes

pub minutes_number : (m : ℕ) → m ≤ most_minutes → IsNumber (pos m)
minutes_number m h = omega arith

pub days_number : (m day : ℕ) → m ≤ most_minutes → IsNumber (duration_days m day)
days_number m day h = by (eqb (m % day) 0) (div-le_self m day)
  where
    by : (t : Bool) → m / day ≤ m → IsNumber (pos (m / day + (if t then 0 else 1)))
    by true k = omega arith
    by false k = omega arith

pub rest_number : (m day : ℕ) → m ≤ most_minutes → Perhaps IsNumber (duration_minutes m day)
rest_number m day h = perhaps_when (not (eqb (m % day) 0)) (pos m) (λ e. minutes_number m h)

pub hours_in_lem : (a : Element) (n : String) → Perhaps IsNumber (hours_in a n)
hours_in_lem a n = perhaps_bind (minutes_most a n) (λ m h. there (hours m h))
  where
    hours : (m : ℕ) → m ≤ most_minutes → IsNumber (pos (m * 100 / 60))
    hours m h = omega arith

-- ---- lags

-- from -most to most
abbrev pub UpTo : ℕ → ℤ → Type 0
UpTo most z = nat_abs z ≤ most

pub up_to_number : (n : ℕ) (z : ℤ) → UpTo n z → n < 2 ^ 63 → IsNumber z
up_to_number n (pos k) h m = omega arith
up_to_number n (negsuc k) h m = omega arith

size_neg : (n : ℕ) → nat_abs (neg_ℤ (pos n)) ≡ n
size_neg zero = refl
size_neg (suc n) = refl

pub held_up_to : (n : ℕ) (z : ℤ) → UpTo n (held_by n z)
held_up_to n (pos k) = omega arith
held_up_to n (negsuc k) = rw (size_neg (min (suc k) n)) (omega arith)

pub cut_up_to : (n : ℕ) (z : ℤ) (d : ℕ) → UpTo n z → UpTo n (cut z d)
cut_up_to n (pos k) d h = omega (arith, div-le_self k d)
cut_up_to n (negsuc k) d h = rw (size_neg (suc k / d)) (omega (arith, div-le_self (suc k) d))
