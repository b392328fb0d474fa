-- What the answer of a number text means, and what the code holds of its parts. Assumes nothing.
use Rattle.std.specs.Prelude.{if◌then◌else◌, ◌≡◌, ℕ, zero, suc, ◌+◌, ◌-◌, ◌*◌, ◌^◌, ◌<◌, ◌≤◌, min, true, false, [], ◌∷◌, length, drop, slice_index, Float}
use Rattle.definition.specs.declared.Unread.TheVariants.{Absent}
use Rattle.std.specs.Prelude.{Err}
use Rattle.std.specs.Prelude.{Option, Some, None}
use Rattle.definition.specs.Text.{Text, Sign, plus, minus, bare, sign_of, is_digit, digits}
use Rattle.definition.specs.Number.{Reading, Decimal, is_e, unsigned, decimal_of, magnitude}
use Rattle.number.specs.declared.decimal.Mantissa.{Mantissa}
use Rattle.number.specs.declared.decimal.Power.{Power}
use Rattle.number.specs.declared.decimal.Power.TheVariants as power

-- ---- digits, held to a limit that is past every length
abbrev pub limit : ℕ
limit = 10 ^ 19

abbrev pub hold : Option ℕ → Option ℕ
hold None = None
hold (Some n) = Some (min n limit)

-- reading so many digits of s, written after those of v, gives w and leaves t
pub data Reads (v : ℕ) (s : Text) : ℕ → ℕ → Text → Type 0 where
  start : Reads v s 0 v s
  digit : {c w b : ℕ} {t : Text} → Reads v s c w (b ∷ t) → is_digit b ≡ true → Reads v s (suc c) (min (w * 10 + (b - 48)) limit) t

-- all digits from a place on, up to e
pub record Ran (s : Text) (from v w e : ℕ) : Type 0 where
  pub forward : from ≤ e
  pub inside : e ≤ length s
  pub held : w ≤ limit
  pub reads : Reads v (drop from s) (e - from) w (drop e s)
  pub stops : e < length s → is_digit (slice_index s e) ≡ false

-- ---- the power of ten
abbrev pub power_by : Sign → Option ℕ → Option Power
power_by g None = None
power_by plus (Some n) = Some (power.Up n)
power_by minus (Some n) = Some (power.Down n)
power_by bare (Some n) = Some (power.Up n)

-- what follows an `e`
unfoldable pub power_of : Text → Option Power
power_of s = power_by (sign_of s) (hold (digits (unsigned (sign_of s) s)))

-- what follows the digits
abbrev pub power_at : Text → Option Power
power_at [] = Some (power.Up 0)
power_at (b ∷ s) = if is_e b then power_of s else None

-- ---- the number
abbrev pub decimal : ℕ → ℕ → ℕ → Decimal
decimal v u d = record { digits = v; up = u; down = d }

-- digits, of which so many stand after the dot, and the power
abbrev pub scaled_by : ℕ → ℕ → Power → Reading Float
scaled_by v places (power.Up n) = magnitude (Some (decimal v n places))
scaled_by v places (power.Down n) = magnitude (Some (decimal v 0 (places + n)))

abbrev pub scaled_at : ℕ → ℕ → Option Power → Reading Float
scaled_at v places None = Err Absent
scaled_at v places (Some p) = scaled_by v places p

-- so many digits, and what follows them
abbrev pub ended : ℕ → ℕ → ℕ → Text → Reading Float
ended zero v places s = Err Absent
ended (suc c) v places s = scaled_at v places (power_at s)

-- what a number begins with
pub record Begins (s : Text) (m : Mantissa) : Type 0 where
  pub inside : m.end ≤ length s
  pub few : m.places ≤ length s
  pub number : magnitude (decimal_of s) ≡ ended m.count m.value m.places (drop m.end s)
