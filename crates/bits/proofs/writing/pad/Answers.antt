use Rattle.bits.proofs.Overwriting.{pads}
use Rattle.bits.proofs.writing.pad.Goals as goal

pub returns : goal.returns
returns c =
    pads c.to_byte.result c.to_byte.ensures c.overwrite.ensures
