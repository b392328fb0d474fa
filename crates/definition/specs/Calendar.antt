-- Calendars. MSPDI: WeekDays give days and hours (DayType 1 is Sunday), Exceptions days off or on. Document 01 and the Rust: calendars without a base first,
-- then the others, each over a copy of the first earlier one with that UID, else over the default. Equal names gain `*`. Main is the one of
-- CalendarUID, else the first, else the default. Weekdays apply before exceptions, so an exception asks the final week. A day off on a
-- working weekday is a holiday; a day worked without hours on another weekday is an extra day; a day worked with hours has those, and the
-- last one given counts. ToTime `00:00` means 1440. Assumes nothing.
use Rattle.std.specs.Prelude.{if◌then◌else◌, ℕ, zero, suc, ◌+◌, ◌%◌, Bool, true, false, ◌&&◌, not, length, get_or, set, replicate, ltb, eqb}
use mathlib.Core.List.{List, [], ◌∷◌, ◌++◌, map, flat_map}
use Rattle.std.specs.Prelude.{Option, Some}
use Rattle.definition.specs.Base.{◌>>=◌, ◌or◌, ◌or_else◌, when, given, within, keep, first, find, present, some?, same}
use Rattle.definition.specs.Ascii.{bytes}
use Rattle.definition.specs.Text.{Text, unsigned_of}
use Rattle.definition.specs.Date.{Date, weekday}
use Rattle.definition.specs.Time.{time_of}
use Rattle.definition.specs.Tree.{Element, child, all_in}
use Rattle.definition.specs.Field.{text_in, yes_in}
use Rattle.definition.specs.Format.{Period, earlier}
use Rattle.definition.specs.Recurrence.{recurrence_days, days_of}
use Rattle.definition.specs.Model.{Calendar}

-- ---- lists kept rising

-- an item put in its place; one that stands there is replaced
unfoldable pub insert : {A : Type 0} → (A → A → Bool) → A → List A → List A
insert lt x [] = x ∷ []
insert lt x (y ∷ l) = if lt x y then x ∷ y ∷ l else if lt y x then y ∷ insert lt x l else x ∷ l

-- items put in one after another
unfoldable pub insert_all : {A : Type 0} → (A → A → Bool) → List A → List A → List A
insert_all lt [] l = l
insert_all lt (x ∷ xs) l = insert_all lt xs (insert lt x l)

-- ---- hours

abbrev pub is_empty : {A : Type 0} → List A → Bool
is_empty [] = true
is_empty (x ∷ l) = false

unfoldable pub working_time : Element → Option Period
working_time t =
    text_in t "FromTime" >>= time_of >>= λ from.
    text_in t "ToTime" >>= time_of >>= λ until.
    let to = if eqb until 0 then 1440 else until in
    when (ltb from to) (from, to)

unfoldable pub periods_of : Element → List Period
periods_of e = insert_all earlier (present (map working_time (all_in (child e (bytes "WorkingTimes")) (bytes "WorkingTime")))) []

-- the hours of a working day that names none
abbrev pub default_periods : List Period
default_periods = (480, 720) ∷ (780, 1020) ∷ []

abbrev pub or_hours : List Period → List Period → List Period
or_hours [] other = other
or_hours (p ∷ l) other = p ∷ l

abbrev pub hours_on : List (Date × List Period) → Date → List Period
hours_on l d = (find (λ (x : Date × List Period). eqb x.0 d) l >>= λ x. Some x.1) or []

-- the hours of a date: its own, else its weekday's, else the default ones
unfoldable pub day_periods : Calendar → Date → List Period
day_periods c d = or_hours (hours_on c.exceptions d) (or_hours (get_or c.hours (weekday d) []) default_periods)

-- ---- one calendar

abbrev pub elapsed_name : Text
elapsed_name = bytes "Elapsed (24 hours)"

abbrev pub plain_calendar : Text → List Bool → List (List Period) → Calendar
plain_calendar name week hours = record { name = name; week = week; hours = hours; holidays = []; extra_days = []; exceptions = [] }

unfoldable pub default_calendar : Calendar
default_calendar = plain_calendar (bytes "Standard") (true ∷ true ∷ true ∷ true ∷ true ∷ false ∷ false ∷ []) (replicate 7 [])

unfoldable pub elapsed_calendar : Calendar
elapsed_calendar = plain_calendar elapsed_name (replicate 7 true) (replicate 7 ((0, 1440) ∷ []))

unfoldable pub day_type : Element → Option ℕ
day_type w = text_in w "DayType" >>= unsigned_of 64

abbrev pub week_days : Element → List Element
week_days e = all_in (child e (bytes "WeekDays")) (bytes "WeekDay")

-- a weekday's place in the week, Monday 0
abbrev pub place_of : Element → Option ℕ
place_of w = day_type w >>= λ t. when (within 1 7 t) ((t + 5) % 7)

-- the week and the hours as the WeekDays say, one after another
unfoldable pub week_by : List Element → List Bool → List Bool
week_by [] week = week
week_by (w ∷ ws) week = week_by ws ((place_of w >>= λ k. Some (set week k (yes_in w "DayWorking"))) or week)

unfoldable pub hours_by : List Element → List (List Period) → List (List Period)
hours_by [] hours = hours
hours_by (w ∷ ws) hours =
    hours_by ws ((place_of w >>= λ k. Some (set hours k (if yes_in w "DayWorking" then periods_of w else []))) or hours)

-- days, whether they are worked, and their hours
pub record Exception : Type 0 where
  pub days : List Date
  pub working : Bool
  pub periods : List Period

abbrev pub exception_on : Element → List Date → Exception
exception_on e days = record { days = days; working = yes_in e "DayWorking"; periods = periods_of e }

abbrev pub old_exceptions : Element → List Exception
old_exceptions e = map (λ w. exception_on w (days_of w)) (keep (λ w. eqb (day_type w or 1) 0) (week_days e))

abbrev pub recurring : Element → List Element
recurring e = all_in (child e (bytes "Exceptions")) (bytes "Exception")

-- the old form's first
unfoldable pub exceptions_of : Element → List Exception
exceptions_of e = old_exceptions e ++ present (map (λ x. recurrence_days x >>= λ days. Some (exception_on x days)) (recurring e))

abbrev pub works : List Bool → Date → Bool
works week d = get_or week (weekday d) false

abbrev pub days_off : List Bool → Exception → List Date
days_off week x = if x.working then [] else keep (works week) x.days

abbrev pub days_on : List Bool → Exception → List Date
days_on week x = if x.working && is_empty x.periods then keep (λ d. not (works week d)) x.days else []

abbrev pub days_with_hours : Exception → List (Date × List Period)
days_with_hours x = if x.working && not (is_empty x.periods) then map (λ d. (d, x.periods)) x.days else []

abbrev pub by_date : Date × List Period → Date × List Period → Bool
by_date x y = ltb x.0 y.0

-- a calendar over its base
unfoldable pub calendar_of : Element → Calendar → Calendar
calendar_of e base =
    let week = week_by (week_days e) base.week in
    let changes = exceptions_of e in
    record {
      name = text_in e "Name" or bytes "Calendar";
      week = week;
      hours = hours_by (week_days e) base.hours;
      holidays = insert_all ltb (flat_map (days_off week) changes) base.holidays;
      extra_days = insert_all ltb (flat_map (days_on week) changes) base.extra_days;
      exceptions = insert_all by_date (flat_map days_with_hours changes) base.exceptions;
    }

-- ---- all calendars, each with its UID

-- a name with `*` until it is none of the names; that many are enough
unfoldable pub starred : ℕ → List Text → Text → Text
starred zero names n = n
starred (suc k) names n = if some? (same n) names then starred k names (n ++ bytes "*") else n

abbrev pub free : List Text → Text → Text
free names n = starred (length names) names n

abbrev pub Named : Type 0
Named = Text × Calendar

abbrev pub with_uid : Text → List Named → Option Calendar
with_uid u built = find (λ (x : Named). same x.0 u) built >>= λ x. Some x.1

abbrev pub name_of : List Named → Text → Option Text
name_of built u = with_uid u built >>= λ c. Some c.name

abbrev pub base_of : Element → Option Text
base_of e = text_in e "BaseCalendarUID" >>= λ u. when (not (same u (bytes "-1"))) u

abbrev pub renamed : Text → Calendar → Calendar
renamed n c = record { name = n; week = c.week; hours = c.hours; holidays = c.holidays; extra_days = c.extra_days; exceptions = c.exceptions }

unfoldable pub build : List Named → List Element → List Named
build built [] = built
build built (e ∷ es) =
    let c = calendar_of e ((base_of e >>= λ u. with_uid u built) or default_calendar) in
    build (built ++ ((text_in e "UID" or [], renamed (free (map (λ (x : Named). x.1.name) built) c.name) c) ∷ [])) es

abbrev pub calendar_elements : Element → List Element
calendar_elements root = all_in (child root (bytes "Calendars")) (bytes "Calendar")

-- those without a base, then the others
unfoldable pub built_calendars : Element → List Named
built_calendars root =
    let es = calendar_elements root in
    build (build [] (keep (λ e. not (given (base_of e))) es)) (keep (λ e. given (base_of e)) es)

unfoldable pub main_calendar : Element → List Named → Calendar
main_calendar root built =
    ((text_in root "CalendarUID" >>= λ u. with_uid u built) or_else (first built >>= λ x. Some x.1)) or default_calendar

-- how many exceptions give no rule
unfoldable pub skipped : Element → ℕ
skipped root = length (keep (λ x. not (given (recurrence_days x))) (flat_map recurring (calendar_elements root)))
