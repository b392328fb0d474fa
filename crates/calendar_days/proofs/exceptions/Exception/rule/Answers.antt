use Rattle.std.proofs.Common.{◌∙◌}
use Rattle.calendar_days.proofs.Elements.{new_days, of_week_day, of_recurring}
use Rattle.calendar_days.proofs.exceptions.Exception.rule.Goals as goal

pub returns-in-WeekDay : goal.returns-in-WeekDay
returns-in-WeekDay c = c.old_rule.ensures ∙ of_week_day c.in-WeekDay.is

pub returns-in-Recurring : goal.returns-in-Recurring
returns-in-Recurring c = new_days _ c.rule_of.ensures ∙ of_recurring c.in-Recurring.is
