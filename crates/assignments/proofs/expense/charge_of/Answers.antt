use Rattle.tree.specs.Place.{meaning}
use Rattle.assignments.specs.Records.{finders_at}
use Rattle.assignments.proofs.Expenses.{no_task, no_cost, both_there}
use Rattle.assignments.proofs.expense.charge_of.Goals as goal

pub returns-in_err-activity : goal.returns-in_err-activity
returns-in_err-activity c =
    let a = c.args in
    rw c.from_residual.ensures (no_task (finders_at a.words.now a.tables) (meaning a.e) c.task_of.ensures c.in_err-activity.was)

pub returns-in_err-resource : goal.returns-in_err-resource
returns-in_err-resource c =
    let a = c.args in
    rw c.from_residual-in_err-resource.ensures (no_cost (finders_at a.words.now a.tables) (meaning a.e) c.task_of.ensures c.cost_of.ensures c.in_ok-activity.was c.in_err-resource.was)

pub returns : goal.returns
returns c =
    let a = c.args in
    both_there (finders_at a.words.now a.tables) (meaning a.e) c.task_of.ensures c.cost_of.ensures c.in_ok-activity.was c.in_ok-resource.was
