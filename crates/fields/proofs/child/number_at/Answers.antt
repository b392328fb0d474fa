use Rattle.tree.specs.Place.{meaning}
use Rattle.tree.specs.Root.{own_text}
use Rattle.fields.proofs.Empty.{number_or}
use Rattle.fields.proofs.child.number_at.Goals as goal

pub returns : goal.returns
returns c =
    number_or (own_text (meaning c.args.e)) _ c.own_text.ensures c.ok.ensures.value c.number_of.ensures
