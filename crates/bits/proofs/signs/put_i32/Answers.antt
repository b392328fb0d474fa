use mathlib.Core.Path.{◌∙◌}
use mir.Syntax.{w32}
use Rattle.bits.specs.Steps.{put_same}
use Rattle.bits.proofs.Twos.{twos_cast}
use Rattle.bits.proofs.signs.put_i32.Goals as goal

pub returns : goal.returns
returns c = put_same (c.from.ensures ∙ twos_cast w32 c.args.v c.ranges.v c.cast_unsigned.ensures) c.put.ensures
