-- What the answers of this crate mean. Assumes nothing.
use Rattle.std.specs.Prelude.{if◌then◌else◌, ℕ, suc, ◌+◌, ◌-◌, Bool, ◌&&◌, ltb, ℤ, pos, negsuc, ◌-ℤ◌}
use Rattle.std.specs.Prelude.{Option, Some, None}
use Rattle.definition.specs.Base.{◌>>=◌, when, within}
use Rattle.definition.specs.Date.{month_length, weekday, from_days, year_at, ymd_of}
use Rattle.definition.specs.declared.Ymd.{Ymd}

-- month and day of a year are there
unfoldable pub is_day : ℕ → ℕ → ℕ → Bool
is_day y m d = within 1 12 m && within 1 (month_length y m) d

-- ---- numbers with a sign

-- a number counted from `from` below 0 on, where that lies between the first and the last
unfoldable pub placed : ℕ → ℕ → ℕ → ℤ → Option ℕ
placed from first last (pos n) = when (within first last (n + from)) (n + from)
placed from first last (negsuc n) = if ltb n from then when (within first last (from - suc n)) (from - suc n) else None

-- ---- by a year and a day number as they are written

-- none outside the years -9999 to 9999, or for a month that no year has
unfoldable pub length_at : ℤ → ℕ → Option ℕ
length_at year m = year_at year >>= λ y. when (within 1 12 m) (month_length y m)

unfoldable pub weekday_at : ℤ → Option ℕ
weekday_at n = from_days n >>= λ d. Some (weekday d)

unfoldable pub ymd_at : ℤ → Option Ymd
ymd_at n = from_days n >>= λ d. Some (ymd_of d)

-- ---- from one day to another

-- 0 below 0
abbrev pub upward : ℤ → ℕ
upward (pos n) = n
upward (negsuc n) = 0

-- b - a, 0 where b lies before a
unfoldable pub days_between : ℤ → ℤ → ℕ
days_between a b = upward (b -ℤ a)
