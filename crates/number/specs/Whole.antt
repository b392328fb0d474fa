-- Floats to whole numbers, within what the code works out, and that amounts lie within. Assumes nothing.
use Rattle.std.specs.Prelude.{if◌then◌else◌, ◌≡◌, ℕ, ◌^◌, ◌&&◌, T, ℤ, pos, Float}
use Rattle.std.specs.Float.{binary64}
use Rattle.std.specs.Float.Ieee.{neg, le, mul}
use Rattle.definition.specs.Number.{float, zero_float, half_away, nearest_whole, hundredths}
use Rattle.number.specs.Tests.{is_true}
pub use Rattle.laws.specs.Floats.{most, Within, hundred}

-- the whole number nearest to a float from 0 to 10 ^ 18, and from -10 ^ 18 to 10 ^ 18; 0 for any other float
unfoldable pub half_within : Float → ℕ
half_within x = if le zero_float x && le x most then half_away x else 0

unfoldable pub whole_within : Float → ℤ
whole_within x = if le (neg most) x && le x most then nearest_whole x else pos 0

pub half_same : (x : Float) → T (le zero_float x) → T (le x most) → half_within x ≡ half_away x
unfolding half_within
half_same x l h = rw (is_true (le zero_float x) l, is_true (le x most) h)

pub whole_same : (x : Float) → T (le (neg most) x) → T (le x most) → whole_within x ≡ nearest_whole x
unfolding whole_within
whole_same x l h = rw (is_true (le (neg most) x) l, is_true (le x most) h)

pub hundredths_same : (x : Float) → T (le (neg (float (10 ^ 13))) x) → T (le x (float (10 ^ 13))) → whole_within (mul binary64 x (float 100)) ≡ hundredths x
hundredths_same x l h = let w = hundred x l h in whole_same (mul binary64 x (float 100)) w.low w.high
