use Rattle.std.proofs.Common.{sym}
use lib.Ieee.{of_bits}
use Rattle.number.proofs.Totals.{total_is}
use Rattle.number.proofs.duration.total_of.Goals as goal

pub returns : goal.returns
unfolding of_bits
returns c = sym (total_is c.args.f)
