use Rattle.bits.specs.Steps.{laid_step, put_field}
use Rattle.bits.proofs.writing.put.Goals as goal

pub returns : goal.returns
returns c = put_field _ _ (laid_step c.overwrite.ensures)
