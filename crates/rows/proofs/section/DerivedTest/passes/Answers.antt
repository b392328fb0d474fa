use Rattle.std.proofs.Common.{rules}
use Rattle.rows.specs.Walks.{is_derived}
use Rattle.rows.proofs.section.DerivedTest.passes.Goals as goal

pub returns : goal.returns
unfolding is_derived
returns c = search rules
