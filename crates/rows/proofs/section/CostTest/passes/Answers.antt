use Rattle.std.proofs.Common.{rules}
use Rattle.rows.specs.Walks.{is_cost_resource}
use Rattle.rows.proofs.section.CostTest.passes.Goals as goal

pub returns : goal.returns
unfolding is_cost_resource
returns c = search rules
