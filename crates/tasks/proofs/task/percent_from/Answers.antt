use mathlib.Core.Path.{◌∙◌}
use lib.Ieee.{of_bits}
use Rattle.std.proofs.Common.{rules}
use Rattle.fields.specs.Hundredths.{then_when}
use Rattle.tasks.proofs.Floats.{percent_is}
use Rattle.tasks.proofs.task.percent_from.Goals as goal

pub returns : goal.returns
unfolding of_bits
returns c = then_when _ _ _ c.then.ensures.variant c.then.ensures.some (λ e y h. search rules) ∙ percent_is c.args.p
