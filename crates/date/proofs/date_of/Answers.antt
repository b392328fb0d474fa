use mathlib.Core.Path.{ap, ◌∙◌}
use Rattle.definition.specs.Text.{Text, trim}
use Rattle.definition.specs.Date.{date_parts, date_of}
use Rattle.definition.specs.Answer.{day_number_of}
use Rattle.date.proofs.date_of.Goals as goal

pub returns : goal.returns
unfolding date_of
returns c =
    c.date_parts.ensures
    ∙ ap (λ (t : Text). day_number_of (date_parts t)) (c.trim.ensures ∙ ap trim c.first_ten.ensures)
