-- The base of a calendar: its record stands in a buffer before a place, or it is the default one. Assumes nothing.
use Rattle.std.specs.Prelude.{◌≡◌, ℕ, List}
use Rattle.std.specs.Prelude.{None, Option, Some}
use Rattle.definition.specs.Format.{times, flag, periods}
use Rattle.definition.specs.Model.{Calendar}
use Rattle.definition.specs.Calendar.{default_calendar}
use Rattle.bits.specs.Places.{past}
use Rattle.bits.specs.Reads.{Reads}
use Rattle.bits.specs.declared.Place.{Place}
use Rattle.model.specs.declared.parts.CalendarPlaces.{CalendarPlaces}
use Rattle.calendar_days.specs.Lists.{DayLists, ListsFrom}

abbrev pub lists_of : Calendar → DayLists
lists_of c = (c.holidays, (c.extra_days, c.exceptions))

-- the parts of a record that stands before a place
pub record Based (r : CalendarPlaces) (d : List ℕ) (p : Place) (c : Calendar) : Type 0 where
  pub week : Reads (times 7 flag) d r.week c.week r.hours
  pub hours : Reads (times 7 periods) d r.hours c.hours r.holidays
  pub lists : ListsFrom r.holidays d p (lists_of c)

unfoldable pub BaseIs : Option CalendarPlaces → List ℕ → Place → Calendar → Type 0
BaseIs (Some r) d p c = Based r d p c
BaseIs None d p c = c ≡ default_calendar

-- where its lists of days stand; those of the default one, which are empty, nowhere
unfoldable pub days_place : Option CalendarPlaces → Place
days_place (Some r) = r.holidays
days_place None = past
