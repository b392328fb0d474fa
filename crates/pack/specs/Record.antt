-- The records of the values that are written. Assumes nothing.
use Rattle.std.specs.Prelude.{ℕ, ℤ}
use Rattle.std.specs.Prelude.{Option}
use Rattle.definition.specs.Date.{Date}
use Rattle.definition.specs.declared.PerKind.{PerKind}
use Rattle.definition.specs.Text.{Text}
use Rattle.definition.specs.Model as M
use Rattle.definition.specs.Format.{Format, ◌⊗◌, code, number, date, text, optional}
use Rattle.definition.specs.Pack.{constraint}
use Rattle.definition.specs.Pack as P
use Rattle.pack.specs.Value.{date_by, date_given, constraint_given, given_by, starred}
use Rattle.pack.specs.declared.record.ActivityKind.{ActivityKind}
use Rattle.pack.specs.declared.record.ActivityKind.TheVariants as kind
use Rattle.pack.specs.declared.record.Link.{Link}
use Rattle.pack.specs.declared.record.Assignment.{Assignment}
use Rattle.pack.specs.declared.record.Expense.{Expense}
use Rattle.pack.specs.declared.record.Project.{Project}
use Rattle.pack.specs.declared.record.Resource.{Resource}
use Rattle.pack.specs.declared.record.Activity.{Activity}

-- the model's code
abbrev pub activity_kind_code : ActivityKind → ℕ
activity_kind_code kind.Task = 0
activity_kind_code kind.StartMilestone = 1
activity_kind_code kind.FinishMilestone = 2

abbrev pub link_by : Link → M.Link
link_by l =
    record { predecessor = l.predecessor; successor = l.successor; kind = l.kind; lag = l.lag.days; minutes = l.lag.minutes; lag_kind = (l.lag.kind, l.lag.share) }

abbrev pub assignment_by : Assignment → M.Assignment
assignment_by a = record {
  activity = a.activity;
  resource = a.resource;
  planned = a.work.planned;
  actual = a.work.actual;
  remaining = a.work.remaining;
  rate = a.rate;
}

abbrev pub expense_by : Expense → M.Expense
expense_by e = record {
  activity = e.activity;
  name = e.name.now;
  planned = e.cost.planned;
  actual = e.cost.actual;
  remaining = e.cost.remaining;
  accrual = e.accrual;
}

abbrev pub project_by : Project → M.Project
project_by p = record {
  name = p.name.now;
  start = date_by p.start.0;
  currency = p.currency.now;
  skipped = p.skips.skipped;
  dangling = p.skips.dangling;
  across = p.skips.across;
  fractional = p.skips.fractional;
  data_date = date_given p.data_date;
}

abbrev pub Counts : Type 0
Counts = PerKind ℕ

abbrev pub counts_by : Counts → P.Counts
counts_by n = (n.calendars, (n.activities, (n.links, (n.resources, (n.assignments, n.expenses)))))

abbrev pub resource_by : Resource → M.Resource
resource_by r = record {
  id = starred r.id;
  name = r.name.now;
  kind = r.kind;
  unit = r.unit.now;
  max_units = r.max_units;
  calendar = given_by starred r.calendar;
  price = r.price;
}

abbrev pub activity_by : Activity → M.Activity
activity_by a = record {
  id = starred a.id;
  name = a.name.now;
  kind = a.plan.kind;
  duration = a.plan.duration.days;
  minutes = a.plan.duration.minutes;
  parent = a.plan.parent;
  notes = a.notes.now;
  calendar = given_by starred a.calendar;
  constraint = constraint_given a.dates.constraint;
  deadline = date_given a.dates.deadline;
  start = date_given a.dates.start;
  finish = date_given a.dates.finish;
  percent = a.progress.percent;
  duration_type = a.progress.duration_type;
  remaining = a.progress.remaining;
  uid = a.uid.now;
}

-- ---- an activity's fields from its notes on

abbrev pub ScheduleFields : Type 0
ScheduleFields = Text × (Option Text × (Option (ℕ × Option Date) × (Option Date × (Option Date × (Option Date × (Option ℤ × (ℕ × (Option ℤ × Text))))))))

abbrev pub schedule_fields : Format ScheduleFields
schedule_fields = text ⊗ optional text ⊗ optional constraint ⊗ optional date ⊗ optional date ⊗ optional date ⊗ optional number ⊗ code 0 3 ⊗ optional number ⊗ text

abbrev pub schedule_of : M.Activity → ScheduleFields
schedule_of a = (a.notes, (a.calendar, (a.constraint, (a.deadline, (a.start, (a.finish, (a.percent, (a.duration_type, (a.remaining, a.uid)))))))))
