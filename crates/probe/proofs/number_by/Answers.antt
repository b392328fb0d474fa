use Rattle.std.proofs.Common.{rules}
use Rattle.definition.specs.Answer.{date_meaning}
use Rattle.probe.proofs.number_by.Goals as goal

pub returns : goal.returns
unfolding date_meaning
returns c = search rules
