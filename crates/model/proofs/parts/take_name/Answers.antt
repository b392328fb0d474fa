use Rattle.model.specs.Places.{between}
use Rattle.model.proofs.Single.{text_none, text_some}
use Rattle.model.proofs.parts.take_name.Goals as goal

pub returns-in_default : goal.returns-in_default
returns-in_default c = text_none c.take_name_place-value.ensures c.in_default.is

pub returns : goal.returns
returns c = text_some c.take_name_place-value.ensures c.in-Some.is (between c.args.s.now _ _)
