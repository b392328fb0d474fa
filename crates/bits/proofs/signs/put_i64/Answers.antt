use mir.Syntax.{w64}
use Rattle.bits.specs.Steps.{put_same}
use Rattle.bits.proofs.Twos.{twos_cast}
use Rattle.bits.proofs.signs.put_i64.Goals as goal

pub returns : goal.returns
returns c = put_same (twos_cast w64 c.args.v c.ranges.v c.cast_unsigned.ensures) c.put.ensures
