-- What an activity's values are to be, each from the task. Assumes nothing: these are definitions.
use Rattle.std.specs.Prelude.{if◌then◌else◌, ℕ, ◌≡◌, Bool, not, List, []}
use Rattle.index.specs.declared.Table.{Table}
use Rattle.std.specs.Prelude.{Option, Some}
use Rattle.definition.specs.Ascii.{bytes}
use Rattle.definition.specs.Base.{◌>>=◌, ◌or◌, when, same}
use Rattle.definition.specs.Calendar.{elapsed_name, name_of}
use Rattle.definition.specs.Field.{text_in, yes_in, date_in, minutes_in}
use Rattle.definition.specs.Model.{Activity}
use Rattle.definition.specs.Task.{Context, duration_days, duration_minutes, duration_type_of, constraint_of, percent_of, remaining_of, unless_main}
use Rattle.definition.specs.Text.{Text}
use Rattle.definition.specs.Tree.{Element}
use Rattle.names.specs.Named.{named_in, elapsed_in}
use Rattle.pack.specs.Value.{date_given, constraint_given}
use Rattle.pack.specs.declared.record.Plan.{Plan}
use Rattle.pack.specs.declared.record.Dates.{Dates}
use Rattle.pack.specs.declared.record.Progress.{Progress}

-- 0 a task, 1 a start milestone, 2 a finish milestone: one that a kept link enters
abbrev pub kind_by : Bool → Element → ℕ
kind_by entered t = if yes_in t "Milestone" then (if entered then 2 else 1) else 0

-- the minutes of its day, of all the minutes of a day of the file
abbrev pub day_by : Bool → ℕ → ℕ
day_by elapsed per_day = if elapsed then 1440 else per_day

pub record PlanOf (day : ℕ) (parent : Option ℕ) (entered : Bool) (t : Element) (r : Plan) : Type 0 where
  pub kind_is : r.kind ≡ kind_by entered t
  pub days_is : r.duration.days ≡ duration_days (minutes_in t "Duration" or 0) day
  pub minutes_is : r.duration.minutes ≡ duration_minutes (minutes_in t "Duration" or 0) day
  pub parent_is : r.parent ≡ parent

pub record DatesOf (t : Element) (r : Dates) : Type 0 where
  pub constraint_is : constraint_given r.constraint ≡ constraint_of t
  pub deadline_is : date_given r.deadline ≡ date_in t "Deadline"
  pub start_is : date_given r.start ≡ date_in t "ActualStart"
  pub finish_is : date_given r.finish ≡ date_in t "ActualFinish"

pub record ProgressOf (t : Element) (r : Progress) : Type 0 where
  pub percent_is : r.percent ≡ percent_of t
  pub type_is : r.duration_type ≡ duration_type_of t
  pub remaining_is : r.remaining ≡ remaining_of t

-- ---- its calendar

-- the calendar's name, unless it is the main one's
abbrev pub calendar_by : Context → Bool → Element → Option Text
calendar_by x elapsed t =
    (if elapsed then Some elapsed_name else
    (text_in t "CalendarUID" >>= λ u. when (not (same u (bytes "-1"))) u >>= name_of x.built)) >>= unless_main x

-- the same, as words say it where there is a table
abbrev pub calendar_in : Context → Text → List ℕ → Option Table → Bool → Element → Option Text
calendar_in x s w k elapsed t =
    if elapsed then elapsed_in x w k else (text_in t "CalendarUID" >>= λ u. when (not (same u (bytes "-1"))) u >>= named_in x s w k)

-- ---- the whole, by the name of its calendar, its id and its plan

unfoldable pub activity_planned : Option Text → Text → Plan → Element → Activity
activity_planned calendar id plan t = record {
  id = id;
  name = text_in t "Name" or [];
  kind = plan.kind;
  duration = plan.duration.days;
  minutes = plan.duration.minutes;
  parent = plan.parent;
  notes = text_in t "Notes" or [];
  calendar = calendar;
  constraint = constraint_of t;
  deadline = date_in t "Deadline";
  start = date_in t "ActualStart";
  finish = date_in t "ActualFinish";
  percent = percent_of t;
  duration_type = duration_type_of t;
  remaining = remaining_of t;
  uid = text_in t "UID" or [];
}
