use mathlib.Core.Path.{◌∙◌}
use lib.Ieee.{of_bits}
use Rattle.std.proofs.Common.{rules}
use Rattle.fields.specs.Hundredths.{then_when}
use Rattle.resources.proofs.HeldAmounts.{money_is}
use Rattle.resources.proofs.assignment.money_from.Goals as goal

pub returns : goal.returns
unfolding of_bits
returns c = then_when _ _ _ c.then.ensures.variant c.then.ensures.some (λ e y h. search rules) ∙ money_is c.args.m
