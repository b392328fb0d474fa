use Rattle.std.proofs.Common.{rules}
use Rattle.definition.specs.Format.{periods}
use Rattle.model.specs.Passes.{pass_repeated}
use Rattle.model.proofs.lists.skip_hours.Goals as goal

pub returns : goal.returns
returns c = pass_repeated periods (λ q r h. search rules) c.skip_times.ensures
