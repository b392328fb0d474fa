use mir.Facts.{to_z-of_z}
use mathlib.Core.Path.{ap}
use Rattle.definition.specs.Bits.{twos}
use Rattle.bits.specs.Steps.{put_number, put_same}
use Rattle.pack.proofs.value.put_number.Goals as goal

pub returns : goal.returns
returns c =
    put_number (put_same (ap (twos 64) (to_z-of_z c.ranges.v)) c.put_i64.ensures)
