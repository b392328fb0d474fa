use mathlib.Core.Path.{◌∙◌}
use lib.Ieee.{of_bits}
use Rattle.std.proofs.Common.{rules}
use Rattle.number.proofs.Nearest.{contained}
use Rattle.fields.specs.Hundredths.{then_when}
use Rattle.resources.proofs.HeldAmounts.{units_is}
use Rattle.resources.proofs.resource.units_from.Goals as goal

pub returns : goal.returns
unfolding of_bits
returns c =
    let u = c.args.u in
    let inside = c.contains.ensures.value ∙ contained u c.new.ensures.start c.new.ensures.end c.new.ensures.exhausted in
    then_when _ _ _ (c.then.ensures.variant ∙ inside) c.then.ensures.some (λ e y h. search rules) ∙ units_is u
