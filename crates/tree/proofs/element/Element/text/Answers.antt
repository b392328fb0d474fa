use Rattle.std.proofs.Common.{rules, refl}
use Rattle.tree.proofs.Rows.{text_by}
use Rattle.tree.proofs.element.Element.text.Goals as goal

pub returns : goal.returns
returns c = text_by c.args.self _ _ _ refl c.read_head.ensures c.map_or.ensures (λ h q. search rules)
