-- Document 02, E1: a yes is the text `1` or `true`, in DayWorking, EnteredByOccurrences, Milestone and CrossProject. Which texts are one, and each of the
-- four fields with `true` in it. Assumes nothing.
use Rattle.std.specs.Prelude.{ℕ, ◌≡◌, refl, Bool, true, false, List, [], ◌∷◌, map, get_or}
use Prim.Native.String.{String}
use Rattle.definition.specs.Base.{present}
use Rattle.definition.specs.Ascii.{bytes}
use Rattle.definition.specs.Date.{date_of}
use Rattle.definition.specs.Tree.{Rec, element}
use Rattle.definition.specs.Format.{Period}
use Rattle.definition.specs.Field.{yes_in}
use Rattle.definition.specs.Model.{Activity, Calendar}
use Rattle.definition.specs.Calendar.{calendar_of, default_calendar}
use Rattle.definition.specs.Task.{Context, context_of, activities}
use Rattle.definition.specs.Link.{links, entered, fates, is_across}
use Rattle.examples.specs.Open.{opened}
use Rattle.examples.specs.Hand.{Row, days, AllHold, element_at_lem, exception_on}

-- ---- texts

-- whether a WeekDay with this DayWorking is worked
abbrev worked : String → Bool
worked text = yes_in (element (element_at_lem 1 "WeekDay" "" ∷ element_at_lem 2 "DayWorking" text ∷ [])) "DayWorking"

abbrev pub AllAre : Bool → List String → Type 0
AllAre b [] = Unit
AllAre b (t ∷ ts) = (worked t ≡ b) × AllAre b ts

pub are_yes : AllAre true ("1" ∷ "true" ∷ " 1" ∷ " true " ∷ [])
unfolding opened
are_yes = (refl, (refl, (refl, (refl, tt))))

pub are_no : AllAre false ("0" ∷ "false" ∷ "TRUE" ∷ "True" ∷ "truer" ∷ "tru" ∷ "yes" ∷ "01" ∷ "1 1" ∷ "" ∷ [])
unfolding opened
are_no = (refl, (refl, (refl, (refl, (refl, (refl, (refl, (refl, (refl, (refl, tt))))))))))

-- ---- fields

-- a calendar that asks for its Saturday, with hours, and for one of its Sundays
abbrev calendar : String → Calendar
calendar text =
    calendar_of
    (element
    (element_at_lem 1 "Calendar" "" ∷ element_at_lem 2 "WeekDays" "" ∷ element_at_lem 3 "WeekDay" "" ∷ element_at_lem 4 "DayType" "7" ∷ element_at_lem 4 "DayWorking" text ∷
    element_at_lem 4 "WorkingTimes" "" ∷ element_at_lem 5 "WorkingTime" "" ∷ element_at_lem 6 "FromTime" "06:00" ∷ element_at_lem 6 "ToTime" "14:00" ∷
    element_at_lem 2 "Exceptions" "" ∷ element_at_lem 3 "Exception" "" ∷ element_at_lem 4 "DayWorking" text ∷ element_at_lem 4 "TimePeriod" "" ∷
    element_at_lem 5 "FromDate" "2026-03-08" ∷ []))
    default_calendar

abbrev Works : Calendar → List Bool → List Period → List String → Type 0
Works c week saturday extra =
    (c.week ≡ week) × ((get_or c.hours 5 [] ≡ saturday) × (c.extra_days ≡ present (map (λ s. date_of (bytes s)) extra)))

-- Saturdays are worked from 6 to 14 o'clock, and the Sunday is worked
pub days_by_true : Works (calendar "true") (true ∷ true ∷ true ∷ true ∷ true ∷ true ∷ false ∷ []) ((360, 840) ∷ []) ("2026-03-08" ∷ [])
unfolding opened
days_by_true = (refl, (refl, refl))

pub days_by_truer : Works (calendar "truer") (true ∷ true ∷ true ∷ true ∷ true ∷ false ∷ false ∷ []) [] []
unfolding opened
days_by_truer = (refl, (refl, refl))

-- a task that asks for itself and for its link
abbrev task : String → Context
task text =
    context_of
    (element
    (element_at_lem 1 "Project" "" ∷ element_at_lem 2 "Tasks" "" ∷ element_at_lem 3 "Task" "" ∷ element_at_lem 4 "UID" "1" ∷ element_at_lem 4 "Milestone" text ∷
    element_at_lem 4 "PredecessorLink" "" ∷ element_at_lem 5 "PredecessorUID" "1" ∷ element_at_lem 5 "CrossProject" text ∷ []))

abbrev Reads : Context → List ℕ → List Bool → Type 0
Reads x kinds across = (map (λ (a : Activity). a.kind) (activities x (entered (links x))) ≡ kinds) × (map is_across (fates x) ≡ across)

-- a start milestone, whose link goes to another project; a plain task, whose link does not
pub task_by_true : Reads (task "true") (1 ∷ []) (true ∷ [])
unfolding opened
task_by_true = (refl, refl)

pub task_by_truer : Reads (task "truer") (0 ∷ []) (false ∷ [])
unfolding opened
task_by_truer = (refl, refl)

-- one occurrence, and every day to the last
abbrev once : String → List Rec
once text = exception_on "1" "9999-12-29" "9999-12-30" (element_at_lem 2 "EnteredByOccurrences" text ∷ element_at_lem 2 "Occurrences" "1" ∷ [])

abbrev pub occurrences : List Row
occurrences = days (once "true") ("9999-12-29" ∷ []) ∷ days (once "truer") ("9999-12-29" ∷ "9999-12-30" ∷ []) ∷ []

pub by_occurrences : AllHold occurrences
unfolding opened
by_occurrences = (refl, (refl, tt))
