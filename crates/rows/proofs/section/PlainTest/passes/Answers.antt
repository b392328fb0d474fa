use Rattle.std.proofs.Common.{rules}
use Rattle.rows.specs.Walks.{is_plain}
use Rattle.rows.proofs.section.PlainTest.passes.Goals as goal

pub returns : goal.returns
unfolding is_plain
returns c = search rules
