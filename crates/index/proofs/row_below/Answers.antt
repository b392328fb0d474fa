use Rattle.std.proofs.Common.{rules}
use Rattle.index.specs.Chains.{row_below}
use Rattle.index.proofs.row_below.Goals as goal

pub returns : goal.returns
unfolding row_below
returns c = search rules
