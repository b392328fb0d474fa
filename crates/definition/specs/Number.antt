-- Number texts. Rust's grammar of an f64: a sign or none, digits with a dot or none, one digit at least, then nothing or `e` or `E`, a sign or
-- none, and digits; (`inf`, `infinity` and `nan` are read too and give none, so they are left out here.) Document 01: a text is short if it
-- has at most 15 digits after leading zeros are dropped and its power of ten, fraction digits taken off, lies in -22 to 22, or if all
-- digits are 0. Its value is the f64 nearest to the decimal, ties to even, as IEEE 754 has it. Amounts are rounded to whole numbers, a half
-- away from zero; and which f64 are whole. Assumes nothing.
use Rattle.std.specs.Prelude.{if◌then◌else◌, ℕ, ◌+◌, ◌*◌, ◌/◌, ◌%◌, ◌^◌, Bool, true, false, ◌&&◌, ◌||◌, [], ◌++◌, length, drop, leb, ltb, eqb, ℤ, pos, neg_ℤ, Float}
use Rattle.std.specs.Prelude.{Option, Some, None}
use Rattle.std.specs.Float.{nan, inf, fin, binary64}
use Rattle.std.specs.Float.Ieee.{up, down, round, neg, le, mul}
use Rattle.std.specs.Prelude.{Result, Ok, Err}
use Rattle.definition.specs.declared.Unread.{Unread}
use Rattle.definition.specs.declared.Unread.TheVariants.{Absent, Long}
use Rattle.definition.specs.Base.{◌>>=◌, ◌or◌}
use Rattle.definition.specs.Text.{Text, Sign, plus, minus, bare, sign_of, before, after, digits}

-- what reading a text gives: nothing, a refusal since a number in it is too long, or a value
abbrev pub Reading : Type 0 → Type 0
Reading A = Result A Unread

-- ---- the grammar

-- digits × 10 ^ up / 10 ^ down
pub record Decimal : Type 0 where
  pub digits : ℕ
  pub up : ℕ
  pub down : ℕ

abbrev pub is_dot : ℕ → Bool
is_dot = eqb 46

abbrev pub is_e : ℕ → Bool
is_e b = eqb b 101 || eqb b 69

-- v × 10 ^ n or v / 10 ^ n, by the sign of the power, where v has so many digits after the dot
abbrev pub scaled : Sign → ℕ → ℕ → ℕ → Decimal
scaled minus v places n = record { digits = v; up = 0; down = places + n }
scaled plus v places n = record { digits = v; up = n; down = places }
scaled bare v places n = record { digits = v; up = n; down = places }

-- the digits that a power has after its sign
abbrev pub unsigned : Sign → Text → Text
unsigned plus s = drop 1 s
unsigned minus s = drop 1 s
unsigned bare s = s

-- what follows the `e`, none where there is no `e`
abbrev pub powered : ℕ → ℕ → Option Text → Option Decimal
powered v places None = Some (record { digits = v; up = 0; down = places })
powered v places (Some s) = digits (unsigned (sign_of s) s) >>= λ n. Some (scaled (sign_of s) v places n)

-- a decimal with no sign
unfoldable pub decimal_of : Text → Option Decimal
decimal_of s =
    let m = before is_e s in
    let fraction = after is_dot m or [] in
    digits (before is_dot m ++ fraction) >>= λ v. powered v (length fraction) (after is_e s)

-- ---- the value

-- the most digits that a short number has, and the most powers of ten
abbrev pub most_digits : ℕ
most_digits = 15

abbrev pub most_power : ℕ
most_power = 22

unfoldable pub short? : Decimal → Bool
short? d =
    eqb d.digits 0 ||
    (ltb d.digits (10 ^ most_digits) && (leb d.up (most_power + d.down) && leb d.down (most_power + d.up)))

abbrev pub zero_float : Float
zero_float = fin false 0 (pos 0)

unfoldable pub nearest : Decimal → Float
nearest d = if eqb d.digits 0 then zero_float else round binary64 false (d.digits * 10 ^ d.up) (10 ^ d.down)

abbrev pub magnitude : Option Decimal → Reading Float
magnitude None = Err Absent
magnitude (Some d) = if short? d then Ok (nearest d) else Err Long

abbrev pub negated : Reading Float → Reading Float
negated (Err e) = Err e
negated (Ok x) = Ok (neg x)

abbrev pub number_by : Sign → Text → Reading Float
number_by plus s = magnitude (decimal_of (drop 1 s))
number_by minus s = negated (magnitude (decimal_of (drop 1 s)))
number_by bare s = magnitude (decimal_of s)

unfoldable pub number_of : Text → Reading Float
number_of s = number_by (sign_of s) s

-- the number where there is one; a tree with a long one is refused as a whole
abbrev pub found : {A : Type 0} → Reading A → Option A
found (Err e) = None
found (Ok x) = Some x

-- ---- whole numbers

-- the whole part of |x| + 1/2
unfoldable pub half_away : Float → ℕ
half_away nan = 0
half_away (inf s) = 0
half_away (fin s m e) = (m * up e * 2 + down e) / (down e * 2)

-- x is a whole number; -0 is one, and there is no bound
unfoldable pub is_whole : Float → Bool
is_whole nan = false
is_whole (inf s) = false
is_whole (fin s m e) = eqb (m * up e % down e) 0

abbrev pub with_sign : Bool → ℕ → ℤ
with_sign true n = neg_ℤ (pos n)
with_sign false n = pos n

unfoldable pub nearest_whole : Float → ℤ
nearest_whole nan = pos 0
nearest_whole (inf s) = pos 0
nearest_whole (fin s m e) = with_sign s (half_away (fin s m e))

-- ---- the floats that are named

abbrev pub float : ℕ → Float
float n = round binary64 false n 1

-- lo ≤ x ≤ hi
abbrev pub between : ℕ → ℕ → Float → Bool
between lo hi x = le (float lo) x && le x (float hi)

-- hundredths: x × 100, rounded
abbrev pub hundredths : Float → ℤ
hundredths x = nearest_whole (mul binary64 x (float 100))
