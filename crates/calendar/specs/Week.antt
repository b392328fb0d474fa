-- A week as a word of seven flags, Monday's the most significant. Assumes nothing.
use Rattle.std.specs.Prelude.{◌≡◌, ℕ, ◌+◌, ◌*◌, ◌/◌, ◌%◌, ◌^◌, Bool, false, List, map, ℤ, nat_eq, slice_index_or, slice_set, refl}
use Rattle.std.specs.Prelude.{Option, Some}
use Rattle.definition.specs.Base.{◌>>=◌, ◌or◌, when, within}
use Rattle.definition.specs.Date.{from_days}
use Rattle.definition.specs.Bits.{enc, dec}
use Rattle.definition.specs.Format.{bit as bit_of}
use Rattle.definition.specs.Tree.{Element}
use Rattle.definition.specs.Field.{yes_in}
use Rattle.definition.specs.Model.{Calendar}
use Rattle.definition.specs.Calendar.{place_of, week_days, week_by, works, calendar_of}

-- ---- the place in the week by DayType, Monday 0

abbrev pub place_by : Option ℕ → Option ℕ
place_by o = o >>= λ t. when (within 1 7 t) ((t + 5) % 7)

-- ---- the flags

-- a word's seven flags, from bit 6 for Monday to bit 0 for Sunday
unfoldable pub flags_in : ℕ → List Bool
flags_in w = map (nat_eq 1) (enc 7 w)

-- the word of some flags: no other bit of it is set
unfoldable pub word_of : List Bool → ℕ
word_of week = dec (map bit_of week)

-- a word with the bit above its n low ones replaced
abbrev pub replaced : ℕ → ℕ → Bool → ℕ
replaced w n on = (w / 2 ^ (n + 1) * 2 + bit_of on) * 2 ^ n + w % 2 ^ n

-- a week with a flag replaced, if there is a place
abbrev pub week_on : Option ℕ → Bool → List Bool → List Bool
week_on place on week = (place >>= λ k. Some (slice_set week k on)) or week

-- a week with what a WeekDay says
abbrev pub week_with : Element → List Bool → List Bool
week_with w week = week_on (place_of w) (yes_in w "DayWorking") week

-- the flag of a weekday that may be missing
abbrev pub flag_on : List Bool → Option ℕ → Bool
flag_on week o = (o >>= λ k. Some (slice_index_or week k false)) or false

-- whether a week works on the day of a number
abbrev pub works_on : List Bool → ℤ → Bool
works_on week z = (from_days z >>= λ d. Some (works week d)) or false

-- the week of a calendar over its base
pub calendar_week : (e : Element) (base : Calendar) → week_by (week_days e) base.week ≡ (calendar_of e base).week
unfolding calendar_of
calendar_week e base = refl
