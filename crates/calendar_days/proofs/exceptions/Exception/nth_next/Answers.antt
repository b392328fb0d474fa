use Rattle.std.proofs.Common.{true, false}
use Rattle.calendar_days.specs.declared.exceptions.Exception.TheVariants.{WeekDay, Recurring}
use Rattle.calendar_days.proofs.RuleDays.{mapped}
use Rattle.calendar_days.proofs.Elements.{week_days_from, recurring_from, list_nth}
use Rattle.calendar_days.proofs.exceptions.Exception.nth_next.Goals as goal

pub returns-in-WeekDay : goal.returns-in-WeekDay
returns-in-WeekDay c = list_nth true WeekDay week_days_from _ c.args.n c.in-WeekDay.is c.nth_next.ensures (mapped WeekDay c.nth_next.result c.map.result c.map.ensures.cases)

pub returns-in-Recurring : goal.returns-in-Recurring
returns-in-Recurring c =
    let r = c.nth_next-in-Recurring in
    list_nth false Recurring recurring_from _ c.args.n c.in-Recurring.is r.ensures (mapped Recurring r.result c.map-in-Recurring.result c.map-in-Recurring.ensures.cases)
