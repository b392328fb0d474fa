use Rattle.std.proofs.Common.{ap, ◌∙◌}
use mathlib.Core.Bool.{not}
use lib.Dec.{eqb}
use lib.ListN.{length}
use Rattle.definition.specs.Text.{Text}
use Rattle.definition.specs.Tree.{text_of}
use Rattle.tree.specs.Place.{meaning}
use Rattle.fields.proofs.Empty.{length_given, said_if}
use Rattle.fields.proofs.child.text_in.Goals as goal

pub returns : goal.returns
returns c =
    let e = meaning c.args.e in
    let n = c.args.name.now in
    said_if (text_of e n) _ c.text_of-text.ensures (ap not c.is_empty.ensures ∙ ap (λ (t : Text). not (eqb (length t) 0)) c.text_of-text.ensures ∙ length_given e n) c.then_some.ensures
