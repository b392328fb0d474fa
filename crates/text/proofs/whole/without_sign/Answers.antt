use Rattle.text.proofs.Signs.{signed, bare_is}
use borrow.Author.Rules.{rules}
use Rattle.text.proofs.whole.without_sign.Goals as goal

pub returns-in-43 : goal.returns-in-43
returns-in-43 c = signed c.args.s.now c.in-43.len_at_least (search rules)

pub returns-in_default-2 : goal.returns-in_default-2
returns-in_default-2 c = bare_is c.args.s.now (search rules) (search rules)
