use Rattle.std.proofs.Common.{rules}
use Rattle.pack.proofs.TextBits.{name_is}
use Rattle.pack.proofs.stars.Starred.named.Goals as goal

pub returns : goal.returns
returns c = name_is c.args.text.now c.args.stars c.map.result c.map.ensures.cases (λ x y h. search rules)
