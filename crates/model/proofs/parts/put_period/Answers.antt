use Rattle.bits.specs.Steps.{put_period}
use Rattle.model.proofs.parts.put_period.Goals as goal

pub returns : goal.returns
returns c = put_period c.put-q.ensures c.put.ensures
