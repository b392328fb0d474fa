use Rattle.model.specs.Opening.{opened}
use Rattle.model.proofs.open.Goals as goal

pub returns : goal.returns
returns c = rw c.sections_of.ensures (opened c.take_counts-n.ensures c.walk.ensures)
