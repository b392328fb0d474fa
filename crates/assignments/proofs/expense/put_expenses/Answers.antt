use Rattle.assignments.proofs.Turns.{writes_in}
use Rattle.assignments.proofs.Writing.{cleared_behind}
use Rattle.assignments.proofs.expense.put_expenses.Goals as goal

pub returns : goal.returns
returns c = (writes_in c.put_all-done.ensures.wrote c.from.ensures, cleared_behind c.put_all-done.ensures.below c.end.ensures c.fill_from.ensures)
