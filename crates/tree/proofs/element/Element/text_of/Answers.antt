use Rattle.tree.proofs.Rows.{text_none, text_found}
use Rattle.tree.proofs.element.Element.text_of.Goals as goal

pub returns-in_default : goal.returns-in_default
returns-in_default c = text_none _ c.child.ensures c.in_default.is

pub returns : goal.returns
returns c = text_found _ c.child.ensures c.in-Some.is c.own_text.ensures
