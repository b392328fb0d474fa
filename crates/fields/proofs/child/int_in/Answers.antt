use mathlib.Core.Path.{◌∙◌}
use Rattle.definition.specs.Tree.{text_of}
use Rattle.tree.specs.Place.{meaning}
use Rattle.fields.proofs.Empty.{whole_or}
use Rattle.fields.proofs.child.int_in.Goals as goal

pub returns : goal.returns
returns c = c.whole_of.ensures ∙ whole_or (text_of (meaning c.args.e) c.args.name.now) _ c.text_of.ensures
