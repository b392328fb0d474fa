use Rattle.definition.specs.Tree.{text_of}
use Rattle.tree.specs.Place.{meaning}
use Rattle.fields.proofs.Empty.{number_or}
use Rattle.fields.proofs.child.number_in.Goals as goal

pub returns : goal.returns
returns c =
    number_or (text_of (meaning c.args.e) c.args.name.now) _ c.text_of.ensures c.ok.ensures.value c.number_of.ensures
