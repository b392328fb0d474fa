use mathlib.Core.Path.{ap, ◌∙◌}
use mathlib.Core.Bool.{not}
use lib.Dec.{eqb}
use lib.ListN.{length}
use Rattle.definition.specs.Text.{Text}
use Rattle.tree.specs.Place.{meaning}
use Rattle.fields.proofs.Empty.{length_given}
use Rattle.fields.proofs.child.given.Goals as goal

pub returns : goal.returns
returns c = ap not c.is_empty.ensures ∙ ap (λ (t : Text). not (eqb (length t) 0)) c.text_of.ensures ∙ length_given (meaning c.args.e) c.args.name.now
