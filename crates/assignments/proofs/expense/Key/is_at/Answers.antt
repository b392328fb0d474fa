use mathlib.Core.Path.{sym, ◌∙◌}
use Rattle.text.proofs.Equal.{same_is}
use Rattle.assignments.proofs.Expenses.{expense_at, expense_not}
use Rattle.assignments.proofs.expense.Key.is_at.Goals as goal

pub returns-then-from-row : goal.returns-then-from-row
returns-then-from-row c =
    let a = c.args in
    expense_at a.out.now a.p a.self.activity a.self.name.now c.take-row.ensures c.from.ensures c.if-from-row.true c.raw_text.ensures (c.eq.ensures ∙ sym (same_is a.self.name.now c.raw_text.result.now))

pub returns-else-from-row : goal.returns-else-from-row
returns-else-from-row c =
    let a = c.args in
    expense_not a.out.now a.p a.self.activity a.self.name.now c.take-row.ensures c.from.ensures c.if-from-row.false
