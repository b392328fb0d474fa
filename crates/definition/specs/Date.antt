-- Dates. ISO 8601: the Gregorian calendar, also before its introduction; a year is a leap year if 4 divides it, but of the centuries only
-- those that 400 divides; the lengths of the months. Document 01: a `Date` is a day number, 0 is 1970-01-01; years -9999 to 9999;
-- `date_of` takes the first ten bytes, or all where ten do not end on a character, trims again and splits at `-` into three.
--
-- Here a date is counted in days from 1 January of the year -10000, and a year in years from that one. No date lies that early, so nothing
-- is negative; and 10000 is a multiple of 400, so the leap rule stays as it is. `day_number` gives document 01's number. Assumes nothing.
use Rattle.std.specs.Prelude.{if◌then◌else◌, ℕ, zero, suc, ◌+◌, ◌-◌, ◌*◌, ◌/◌, ◌%◌, Bool, ◌&&◌, ◌||◌, not, take, get_or, leb, ltb, eqb, ℤ, pos, negsuc, ◌-ℤ◌}
use Rattle.std.specs.Prelude.{Option, None}
use Rattle.definition.specs.Base.{◌>>=◌, when, within}
use Rattle.definition.specs.Text.{Text, trim, before, after, signed_of, unsigned_of}
use Rattle.definition.specs.declared.Ymd.{Ymd}

abbrev pub Date : Type 0
Date = ℕ

-- ---- years and months

unfoldable pub leap : ℕ → Bool
leap y = eqb (y % 4) 0 && (not (eqb (y % 100) 0) || eqb (y % 400) 0)

unfoldable pub year_length : ℕ → ℕ
year_length y = if leap y then 366 else 365

-- month 1 is January
unfoldable pub month_length : ℕ → ℕ → ℕ
month_length y m =
    if eqb m 2 then (if leap y then 29 else 28) else
    if eqb m 4 || (eqb m 6 || (eqb m 9 || eqb m 11)) then 30 else 31

-- the days of the first k years of a cycle of 400 years, which the calendar repeats; of the months before month m of a year
unfoldable pub years_length : ℕ → ℕ
years_length zero = 0
years_length (suc k) = years_length k + year_length k

unfoldable pub months_length : ℕ → ℕ → ℕ
months_length y zero = 0
months_length y (suc m) = if eqb m 0 then 0 else months_length y m + month_length y m

abbrev pub cycle : ℕ
cycle = 146097

-- 1 January of a year
unfoldable pub new_year : ℕ → Date
new_year y = y / 400 * cycle + years_length (y % 400)

-- a day of a year's month
unfoldable pub date_at : ℕ → ℕ → ℕ → Date
date_at y m d = new_year y + months_length y m + (d - 1)

-- ---- the year, the month and the day of a date

-- of the first k years of a cycle, or months of a year, the last that begins on or before the nth day (counted from 0)
unfoldable pub year_within : ℕ → ℕ → ℕ
year_within zero n = 0
year_within (suc k) n = if leb (years_length k) n then k else year_within k n

unfoldable pub month_within : ℕ → ℕ → ℕ → ℕ
month_within y zero n = 1
month_within y (suc k) n = if leb (months_length y (suc k)) n then suc k else month_within y k n

-- counted from the year -10000
unfoldable pub year_of : Date → ℕ
year_of d = d / cycle * 400 + year_within 400 (d % cycle)

unfoldable pub month_of : Date → ℕ
month_of d = month_within (year_of d) 12 (d - new_year (year_of d))

unfoldable pub day_of : Date → ℕ
day_of d = d - new_year (year_of d) - months_length (year_of d) (month_of d) + 1

-- ---- days of the week, Monday 0. 1 January -10000 is a Saturday, as 1 January 2000 is: a cycle has 20,871 whole weeks

unfoldable pub weekday : Date → ℕ
weekday d = (d + 5) % 7

-- Sunday 0
unfoldable pub sunday_first : Date → ℕ
sunday_first d = (weekday d + 1) % 7

-- ---- document 01's numbers

-- 1970-01-01; the first and the last date
abbrev pub epoch : Date
epoch = 4371953

abbrev pub first_date : Date
first_date = 366

abbrev pub last_date : Date
last_date = 7304849

unfoldable pub day_number : Date → ℤ
day_number d = pos d -ℤ pos epoch

abbrev pub in_years : Date → Option Date
in_years d = when (within first_date last_date d) d

-- the date of a day number; none outside the years -9999 to 9999
unfoldable pub from_days : ℤ → Option Date
from_days (pos n) = in_years (n + epoch)
from_days (negsuc n) = if ltb n epoch then in_years (epoch - suc n) else None

-- a year as it is written, counted from the year -10000; none outside -9999 to 9999
unfoldable pub year_at : ℤ → Option ℕ
year_at (pos y) = when (leb y 9999) (10000 + y)
year_at (negsuc y) = when (ltb y 9999) (9999 - y)

unfoldable pub from_ymd : ℤ → ℕ → ℕ → Option Date
from_ymd year m d = year_at year >>= λ y. when (within 1 12 m && within 1 (month_length y m) d) (date_at y m d)

unfoldable pub ymd_of : Date → Ymd
ymd_of d = record { year = pos (year_of d) -ℤ pos 10000; month = month_of d; day = day_of d }

-- ---- date texts

abbrev pub dash : ℕ → Bool
dash = eqb 45

-- byte 10 goes on with the character before it where it lies in 80 to BF
unfoldable pub first_ten : Text → Text
first_ten s = if within 0x80 0xBF (get_or s 10 0) then s else take 10 s

unfoldable pub date_parts : Text → Option Date
date_parts s =
    signed_of 32 (before dash s) >>= λ y.
    after dash s >>= λ rest.
    unsigned_of 32 (before dash rest) >>= λ m.
    after dash rest >>= λ day.
    unsigned_of 32 day >>= λ d.
    from_ymd y m d

unfoldable pub date_of : Text → Option Date
date_of s = date_parts (trim (first_ten s))
