use mathlib.Core.Path.{ap, ◌∙◌}
use Rattle.definition.specs.Text.{trim as trimmed, trim_back}
use Rattle.text.proofs.white.trim.Goals as goal

pub returns : goal.returns
unfolding trimmed
returns c = c.trim_back.ensures ∙ ap trim_back c.trim_front.ensures
