use mathlib.Core.Path.{ap, ◌∙◌}
use Rattle.definition.specs.Answer.{day_number_of}
use Rattle.tree.specs.Place.{meaning}
use Rattle.tree.specs.Root.{own_text}
use Rattle.fields.proofs.Empty.{date_or_lem}
use Rattle.fields.proofs.child.date_at.Goals as goal

pub returns : goal.returns
returns c =
    c.date_of.ensures ∙ ap day_number_of (date_or_lem (own_text (meaning c.args.e)) _ c.own_text.ensures)
