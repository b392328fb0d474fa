use borrow.Author.Tests.{not-true}
use Rattle.calendar_days.specs.Exceptions.{daily}
use Rattle.calendar_days.proofs.RuleDays.{mapped}
use Rattle.calendar_days.proofs.Elements.{not_old, are_old}
use Rattle.calendar_days.proofs.exceptions.old_rule.Goals as goal

pub returns-then-not-is_old_exception : goal.returns-then-not-is_old_exception
returns-then-not-is_old_exception c = not_old _ c.is_old_exception.ensures (not-true _ c.if-not-is_old_exception.true-raw)

pub returns : goal.returns
returns c = are_old _ c.is_old_exception.ensures c.if-not-is_old_exception.false c.days_of.ensures (mapped daily c.days_of.result c.map.result c.map.ensures.cases)
