use Rattle.recurrence.proofs.Coming.{begun}
use Rattle.recurrence.proofs.sequence.days.Goals as goal

pub returns : goal.returns
returns c = begun c.args.r c.start.result c.start.ensures.1
