use Rattle.std.proofs.Common.{ap, ◌∙◌}
use Rattle.definition.specs.Duration.{not_below_zero, piece_of}
use Rattle.number.proofs.duration.piece_of.Goals as goal

pub returns : goal.returns
unfolding piece_of
returns c = c.not_below_zero.ensures ∙ ap not_below_zero c.number_of.ensures
