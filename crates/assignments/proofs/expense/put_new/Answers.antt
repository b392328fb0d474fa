use Rattle.std.proofs.Common.{◌∙◌, arith}
use Rattle.definition.specs.Resource.{expense_from}
use Rattle.tree.specs.Place.{meaning}
use Rattle.assignments.specs.Charged.{charged}
use Rattle.assignments.proofs.Expenses.{expense_is}
use Rattle.assignments.proofs.Noting.{notes_known, notes_new}
use Rattle.assignments.proofs.expense.put_new.Goals as goal

pub returns-then-in_use : goal.returns-then-in_use
unfolding expense_from
returns-then-in_use c = notes_known (charged c.args.charge) (omega arith) (rw c.text_of.ensures at c.in_use.ensures) c.if-in_use.true

pub returns : goal.returns
unfolding expense_from
returns c =
    let x = c.args.charge in
    let e = expense_is x.activity (meaning x.resource) (meaning x.assignment) c.cost.result c.text_of.ensures c.cost.ensures (c.from.ensures ∙ c.accrual_of.ensures) in
    notes_new (charged x) (omega arith) (rw c.text_of.ensures at c.in_use.ensures) c.if-in_use.false (rw e at c.put-next.ensures) c.more.ensures (rw c.text_of.ensures at c.hash.ensures) c.note.ensures
