-- What stands at the places that are looked up: a list of periods, and what a calendar says of a date. Assumes nothing.
use Rattle.std.specs.Prelude.{◌≡◌, Bool, false, ℤ, pos, negsuc, List, [], ℕ, eqb, get_or}
use Rattle.std.specs.Prelude.{Option, Some, None}
use Rattle.definition.specs.Base.{some?}
use Rattle.definition.specs.Date.{Date, weekday as weekday_of}
use Rattle.definition.specs.Format.{Format, ◌⊗◌, Period, period, periods, date, list_of}
use Rattle.definition.specs.Model.{Calendar}
use Rattle.definition.specs.Calendar.{by_date, or_hours, hours_on, default_periods}
use Rattle.bits.specs.Reads.{taken_at}
use Rattle.bits.specs.declared.Place.{Place}
use Rattle.model.specs.Lists.{Ahead}
use Rattle.day_sheet.specs.declared.Day.{Day}

-- a calendar's exceptions
abbrev pub exceptions : Format (List (Date × List Period))
exceptions = list_of by_date (date ⊗ periods)

-- whether a date that may be missing is a day, both by document 01's numbers
abbrev pub same_day : ℤ → ℤ → Bool
same_day (pos a) (pos b) = eqb a b
same_day (pos a) (negsuc b) = false
same_day (negsuc a) (pos b) = false
same_day (negsuc a) (negsuc b) = eqb a b

abbrev pub is_on : Option ℤ → ℤ → Bool
is_on None z = false
is_on (Some y) z = same_day y z

-- a count and so many periods stand at p; or nothing does, and there are none
abbrev pub Listed : List ℕ → Place → List Period → Type 0
Listed s p l = Ahead period s (taken_at s p 32).next (taken_at s p 32).value 0 l

-- the same at a place, if there is one; else there are no periods
abbrev pub ListedAt : List ℕ → Option Place → List Period → Type 0
ListedAt s (Some p) l = Listed s p l
ListedAt s None l = l ≡ []

-- what a calendar says of a date, up to its default hours
pub record DayIs (s : List ℕ) (c : Calendar) (d : Date) (r : Day) : Type 0 where
  pub weekday : r.weekday ≡ weekday_of d
  pub holiday : r.holiday ≡ some? (eqb d) c.holidays
  pub extra : r.extra ≡ some? (eqb d) c.extra_days
  pub hours : Listed s r.hours (or_hours (hours_on c.exceptions d) (get_or c.hours (weekday_of d) []))

-- the sheet's values, with the periods that are given
abbrev pub day_value : Day → List Period → ℕ × (Bool × (Bool × List Period))
day_value r l = (r.weekday, (r.holiday, (r.extra, or_hours l default_periods)))
