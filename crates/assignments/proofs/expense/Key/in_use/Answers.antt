use Rattle.assignments.proofs.Noting.{in_use_past, in_use_table, in_use_scan}
use Rattle.assignments.proofs.expense.Key.in_use.Goals as goal

pub returns-then-used-gt7 : goal.returns-then-used-gt7
returns-then-used-gt7 c = in_use_past c.if-used-gt7.true

pub returns-in-Some : goal.returns-in-Some
returns-in-Some c = in_use_table c.in-Some.is c.seek.ensures

pub returns-in-None : goal.returns-in-None
returns-in-None c = in_use_scan c.is_there.ensures
