use Rattle.calendar_days.specs.declared.exceptions.Exception.TheVariants.{WeekDay, Recurring}
use Rattle.calendar_days.proofs.RuleDays.{mapped}
use Rattle.calendar_days.proofs.exceptions.Exceptions.lists.Goals as goal

pub returns : goal.returns
returns c =
    let s = c.args.self in
    record { week_days = mapped WeekDay s.week_day c.map.result c.map.ensures.cases; recurring = mapped Recurring s.recurring c.map-2.result c.map-2.ensures.cases }
