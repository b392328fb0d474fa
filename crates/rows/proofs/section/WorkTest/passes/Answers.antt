use Rattle.std.proofs.Common.{rules}
use Rattle.rows.specs.Walks.{is_work}
use Rattle.rows.proofs.section.WorkTest.passes.Goals as goal

pub returns : goal.returns
unfolding is_work
returns c = search rules
