use Rattle.tree.specs.Place.{meaning}
use Rattle.std.proofs.Common.{sym, ◌∙◌}
use Rattle.assignments.specs.Records.{finders_at}
use Rattle.assignments.proofs.Assignments.{cost_wins, no_task, no_row, both_rows}
use Rattle.assignments.proofs.assignment.assignment_of.Goals as goal

pub returns-then-is_some : goal.returns-then-is_some
returns-then-is_some c =
    let a = c.args in
    cost_wins (finders_at a.words.now a.tables) (meaning a.e) _ c.cost_of.ensures (sym c.is_some.ensures ∙ c.if-is_some.true)

pub returns-in_err-activity : goal.returns-in_err-activity
returns-in_err-activity c =
    let a = c.args in
    rw c.from_residual.ensures (no_task (finders_at a.words.now a.tables) (meaning a.e) _ c.cost_of.ensures (sym c.is_some.ensures ∙ c.if-is_some.false) c.task_of.ensures c.in_err-activity.was)

pub returns-in_err-resource : goal.returns-in_err-resource
returns-in_err-resource c =
    let a = c.args in
    rw c.from_residual-in_err-resource.ensures (no_row (finders_at a.words.now a.tables) (meaning a.e) _ c.cost_of.ensures (sym c.is_some.ensures ∙ c.if-is_some.false) c.task_of.ensures c.in_ok-activity.was c.work_of.ensures c.in_err-resource.was)

pub returns : goal.returns
returns c =
    let a = c.args in
    both_rows (finders_at a.words.now a.tables) (meaning a.e) _ c.cost_of.ensures (sym c.is_some.ensures ∙ c.if-is_some.false) c.task_of.ensures c.in_ok-activity.was c.work_of.ensures c.in_ok-resource.was _ c.work.ensures c.rate.ensures
