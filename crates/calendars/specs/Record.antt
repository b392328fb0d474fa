-- One calendar over its base, part by part. Assumes nothing.
use Rattle.std.specs.Prelude.{if◌then◌else◌, ◌≡◌, ℕ, ◌<◌, ◌≤◌, Bool, true, false, List, [], length, get_or, ◌==◌, slice_index_or}
use Rattle.model.specs.declared.parts.CalendarPlaces.{CalendarPlaces}
use Rattle.std.specs.Prelude.{Option, Some}
use Rattle.definition.specs.Base.{◌>>=◌, ◌or◌}
use Rattle.definition.specs.Tree.{Element}
use Rattle.definition.specs.Field.{yes_in}
use Rattle.definition.specs.Format.{Period, periods, times, whole}
use Rattle.definition.specs.Model.{Calendar}
use Rattle.definition.specs.Pack.{calendar}
use Rattle.definition.specs.Calendar.{place_of, periods_of, hours_by, calendar_of, renamed}
use Rattle.bits.specs.Places.{at, inside}
use Rattle.bits.specs.Reads.{Reads}
use Rattle.bits.specs.Steps.{Puts}
use Rattle.bits.specs.declared.Place.{Place}
use Rattle.calendar.specs.Week.{flags_in}
use Rattle.pack.specs.Value.{starred_by}
use Rattle.calendar_days.specs.Over.{Over}
use Rattle.calendars.specs.Base.{BaseIs}

-- ---- the week

pub record WeekRead (b : Option CalendarPlaces) (d : List ℕ) (w : ℕ) : Type 0 where
  pub week : (p : Place) (c : Calendar) → BaseIs b d p c → flags_in w ≡ c.week

-- ---- the hours

abbrev pub is_place : ℕ → Option ℕ → Bool
is_place day o = (o >>= λ k. Some (k == day)) or false

-- a WeekDay is of a day
abbrev pub on_place : ℕ → Element → Bool
on_place day w = is_place day (place_of w)

-- its hours, none where it is not worked
abbrev pub hours_of : Element → List Period
hours_of w = if yes_in w "DayWorking" then periods_of w else []

-- the hours of a day
abbrev pub day_hours : List Element → ℕ → Calendar → List Period
day_hours ws day c = slice_index_or (hours_by ws c.hours) day []

-- the hours of a day were written again, from the place of seven
pub record CopiesHours (day : ℕ) (hours : Place) (d : List ℕ) (p : Place) (d' : List ℕ) (q : Place) : Type 0 where
  pub puts : day < 7 → (hs : List (List Period)) (end : Place) → (inside (length d) p ≡ true → Reads (times 7 periods) d hours hs end × ((inside (length d) end ≡ true) × (at end ≤ at p)))
      → Puts periods (slice_index_or hs day []) d p d' q

pub record BaseHours (b : Option CalendarPlaces) (day : ℕ) (d : List ℕ) (p : Place) (d' : List ℕ) (q : Place) : Type 0 where
  pub puts : day < 7 → Over periods (BaseIs b) (λ c. get_or c.hours day []) d p d' q

pub record PutsHours (ws : List Element) (day : ℕ) (b : Option CalendarPlaces) (d : List ℕ) (p : Place) (d' : List ℕ) (q : Place) : Type 0 where
  pub puts : day < 7 → Over periods (BaseIs b) (day_hours ws day) d p d' q

abbrev pub PutsWeekHours : List Element → Option CalendarPlaces → List ℕ → Place → List ℕ → Place → Type 0
PutsWeekHours ws b = Over (times 7 periods) (BaseIs b) (λ c. hours_by ws c.hours)

-- ---- the whole

abbrev pub named : Element → ℕ → Calendar → Calendar
named e stars c = renamed (starred_by (calendar_of e c).name stars) (calendar_of e c)

abbrev pub PutsCalendar : Element → ℕ → Option CalendarPlaces → List ℕ → Place → List ℕ → Place → Type 0
PutsCalendar e stars b = Over (whole calendar) (BaseIs b) (named e stars)
