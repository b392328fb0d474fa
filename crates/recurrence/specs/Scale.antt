-- Days, years and months as this crate counts them, from 1 January of the year -10000 on. Assumes nothing: these are definitions.
use Rattle.std.specs.Prelude.{ℕ, ◌+◌, ◌-◌, ◌*◌, ◌≤◌, ◌≡◌, ℤ, pos, ◌-ℤ◌}
use Rattle.std.specs.Prelude.{Option, Some}
use Rattle.definition.specs.Base.{◌>>=◌, when, within}
use Rattle.definition.specs.Date as D
use Rattle.definition.specs.Date.{year_of, month_of, date_at, month_length, day_number, first_date, last_date}
use Rattle.definition.specs.declared.Date.{Date}
use Rattle.date.specs.Scale.{day_count}
use Rattle.recurrence.specs.declared.Rule.{Rule}
use Rattle.recurrence.specs.declared.scale.Scaled.{Scaled}
use Rattle.recurrence.specs.declared.scale.Month.{Month}

-- a day of the years -9999 to 9999, and such a year
pub record InDates (d : D.Date) : Type 0 where
  pub low : first_date ≤ d
  pub high : d ≤ last_date

abbrev pub IsYear : ℕ → Type 0
IsYear y = (1 ≤ y) × (y ≤ 19999)

abbrev pub IsMonth : ℕ → Type 0
IsMonth m = (1 ≤ m) × (m ≤ 12)

-- a year as it is written
pub record YearNumber (z : ℤ) : Type 0 where
  pub year : ℕ
  pub number : z ≡ pos year -ℤ pos 10000
  pub most : year ≤ 19999

abbrev pub day_date : D.Date → Date
day_date n = record { 0 = day_number n }

abbrev pub count_by : Option Date → Option D.Date
count_by a = a >>= λ d. Some (day_count d.0)

abbrev pub scaled_by : Rule → Scaled
scaled_by r = record { rule = r; from = day_count r.from.0; last = day_count r.last.0 }

abbrev pub month_on : D.Date → Month
month_on d = record { year = year_of d; month = month_of d }

-- months, counted from the first January
abbrev pub month_at : D.Date → ℕ
month_at d = year_of d * 12 + (month_of d - 1)

-- the day of the month, if it has one
unfoldable pub day_in : ℕ → ℕ → ℕ → Option D.Date
day_in y m day = when (within 1 (month_length y m) day) (date_at y m day)
