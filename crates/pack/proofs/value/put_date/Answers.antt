use mathlib.Core.Path.{ap, ◌∙◌}
use mir.Facts.{to_z-of_z}
use mir.Syntax.{w32}
use Rattle.definition.specs.Bits.{twos}
use Rattle.bits.specs.Steps.{put_date, put_same}
use Rattle.pack.proofs.value.put_date.Goals as goal

pub returns : goal.returns
returns c =
    put_date (put_same (ap (twos 32) (to_z-of_z {w = w32} (record { sfits = c.day_number.type_inv }) ∙ c.day_number.ensures)) c.put_i32.ensures)
