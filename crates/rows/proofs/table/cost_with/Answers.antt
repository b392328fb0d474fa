use Rattle.std.proofs.Common.{ap, ◌∙◌}
use Rattle.rows.specs.Tables.{cost_in, found_in}
use Rattle.rows.proofs.table.cost_with.Goals as goal

pub returns-in-Some-clause-is : goal.returns-in-Some-clause-is
unfolding cost_in
returns-in-Some-clause-is c = rw c.in-Some.is (c.element_of.ensures.is ∙ ap (found_in c.args.root.tree.now c.args.words.now c.in-Some.t) c.seek.ensures)

pub returns-in-None-clause-is : goal.returns-in-None-clause-is
unfolding cost_in
returns-in-None-clause-is c = rw c.in-None.is c.cost_resource.ensures.is
