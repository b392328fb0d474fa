use Rattle.definition.specs.Format.{periods}
use Rattle.model.proofs.lists.skip_periods.Goals as goal

pub returns : goal.returns
unfolding periods
returns c = c.skip_list.ensures
