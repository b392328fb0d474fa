use Rattle.definition.specs.Field.{not_whole}
use Rattle.definition.specs.Tree.{text_of}
use Rattle.tree.specs.Place.{meaning}
use Rattle.fields.proofs.Empty.{duration_or}
use Rattle.fields.proofs.child.fraction_in.Goals as goal

pub returns : goal.returns
returns c =
    duration_or (text_of (meaning c.args.e) c.args.name.now) _ c.text_of.ensures not_whole c.not_whole.ensures c.duration_of.ensures
