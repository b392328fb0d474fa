use mathlib.Core.Path.{◌∙◌}
use lib.Ieee.{of_bits}
use Rattle.std.proofs.Common.{rules}
use Rattle.number.proofs.Nearest.{contained}
use Rattle.fields.specs.Hundredths.{then_when}
use Rattle.tasks.proofs.Floats.{day_is, day_whole}
use Rattle.tasks.proofs.task.day_from.Goals as goal

pub returns : goal.returns
unfolding of_bits
returns c =
    let m = c.args.m in
    let inside = c.contains.ensures.value ∙ contained m c.new.ensures.start c.new.ensures.end c.new.ensures.exhausted in
    then_when _ _ _ (c.then.ensures.variant ∙ inside) c.then.ensures.some (λ e y h. search (rules, day_whole m e)) ∙ day_is m
