use Rattle.bits.specs.Reads.{flag_at}
use Rattle.bits.proofs.reading.take_flag.Goals as goal

pub returns : goal.returns
unfolding flag_at
returns c = rw c.take-value.ensures
