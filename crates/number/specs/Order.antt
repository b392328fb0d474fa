-- The order of floats, through a bound whose sign is clear; what a caller needs to be within. Assumes nothing.
use Rattle.std.specs.Prelude.{◌≡◌, ℕ, ◌^◌, ◌≤◌, T, Float}
use Rattle.std.specs.Float.{binary64}
use Rattle.std.specs.Float.Ieee.{le, mul}
use Rattle.std.specs.Float.Ieee.Fits.{and_l, and_r}
use Rattle.definition.specs.Number.{float, between, nearest_whole, hundredths}
use Rattle.number.specs.Whole.{whole_within, whole_same, hundredths_same}
pub use Rattle.laws.specs.Floats.{via, of_lt, up_to_lem, down_to, from_zero}

-- ---- within two numbers
pub whole_between : (x : Float) (lo hi : ℕ) → hi ≤ 10 ^ 18 → T (between lo hi x) → whole_within x ≡ nearest_whole x
whole_between x lo hi h t =
    whole_same x (from_zero x lo (10 ^ 18) (and_l (le (float lo) x) (le x (float hi)) t)) (up_to_lem x hi (10 ^ 18) h (and_r (le (float lo) x) (le x (float hi)) t))

pub hundredths_between : (x : Float) (lo hi : ℕ) → hi ≤ 10 ^ 13 → T (between lo hi x) → whole_within (mul binary64 x (float 100)) ≡ hundredths x
hundredths_between x lo hi h t =
    hundredths_same x (from_zero x lo (10 ^ 13) (and_l (le (float lo) x) (le x (float hi)) t)) (up_to_lem x hi (10 ^ 13) h (and_r (le (float lo) x) (le x (float hi)) t))
