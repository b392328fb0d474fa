use mathlib.Core.Path.{ap, ◌∙◌}
use Rattle.definition.specs.Answer.{day_number_of}
use Rattle.definition.specs.Tree.{text_of}
use Rattle.tree.specs.Place.{meaning}
use Rattle.fields.proofs.Empty.{date_or_lem}
use Rattle.fields.proofs.child.date_in.Goals as goal

pub returns : goal.returns
returns c = c.date_of.ensures ∙ ap day_number_of (date_or_lem (text_of (meaning c.args.e) c.args.name.now) _ c.text_of.ensures)
