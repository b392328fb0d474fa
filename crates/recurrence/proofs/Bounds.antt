-- Years, months and dates within the calendar. Assumes nothing.
use Rattle.std.specs.Prelude.{if◌then◌else◌}
use Prim.Native.Nat.{ℕ, ◌+◌, ◌≤◌, ◌<◌}
use native.Mathlib.Omega.{arith}
use mathlib.Core.Path.{◌≡◌}
use mathlib.Core.Bool.{Bool, true, false, ◌||◌}
use lib.Dec.{eqb}
use Rattle.recurrence.specs.Scale.{day_in}
use borrow.Author.Tests.{le-leb}
use Rattle.std.specs.Prelude.{Some}
use Rattle.definition.specs.Date.{year_of, month_of, day_of, date_at, leap, month_length, first_date, last_date}
use Rattle.laws.specs.Calendar.{new_year_next, year_length_lem, year_found, first_new_year, last_new_year, IsDay, is_day_lem}
use Rattle.recurrence.specs.Scale.{month_at}
use Rattle.recurrence.proofs.Months.{year_rises}

end_year : year_of (last_date + 1) ≡ 20000
end_year = year_found (last_date + 1) 20000 (record { from = omega (arith, last_new_year); to = omega (arith, last_new_year, year_length_lem 20000) })

last_year : year_of last_date ≡ 19999
last_year = year_found last_date 19999 (record { from = omega (arith, last_new_year, new_year_next 19999, year_length_lem 19999); to = omega (arith, last_new_year, new_year_next 19999) })

pub year_bound : (d : ℕ) → d ≤ last_date + 1 → year_of d ≤ 20000
year_bound d h = omega (arith, year_rises d (last_date + 1) h, end_year)

pub year_last : (d : ℕ) → d ≤ last_date → year_of d ≤ 19999
year_last d h = omega (arith, year_rises d last_date h, last_year)

pub month_bound : (d : ℕ) → d ≤ last_date + 1 → month_at d ≤ 240011
month_bound d h = let i : IsDay (year_of d) (month_of d) (day_of d) = is_day_lem d in omega (arith, year_bound d h, i.high)

pub month_last : (d : ℕ) → d ≤ last_date → month_at d < 240000
month_last d h = let i : IsDay (year_of d) (month_of d) (day_of d) = is_day_lem d in omega (arith, year_last d h, i.high)

-- ---- from the first date on

first_year : year_of first_date ≡ 1
first_year = year_found first_date 1 (record { from = omega (arith, first_new_year); to = omega (arith, first_new_year, year_length_lem 1) })

pub year_first : (d : ℕ) → first_date ≤ d → 1 ≤ year_of d
year_first d h = omega (arith, year_rises first_date d h, first_year)

pub month_first : (d : ℕ) → first_date ≤ d → 12 ≤ month_at d
month_first d h = omega (arith, year_first d h)

length_least : (y m : ℕ) → 1 ≤ month_length y m
unfolding month_length
length_least y m = by (eqb m 2) (leap y) (eqb m 4 || (eqb m 6 || (eqb m 9 || eqb m 11)))
  where
    by : (a b c : Bool) → 1 ≤ (if a then (if b then 29 else 28) else if c then 30 else 31)
    by true true c = omega arith
    by true false c = omega arith
    by false b true = omega arith
    by false b false = omega arith

pub first_day : (y m : ℕ) → day_in y m 1 ≡ Some (date_at y m 1)
unfolding day_in
first_day y m = rw (le-leb 1 (month_length y m) (length_least y m))
