use Rattle.std.proofs.Common.{sym, ◌∙◌, arith}
use Rattle.text.proofs.Digits.{size_nil, size_some}
use Rattle.text.proofs.whole.size_to.Goals as goal

pub returns-in-0 : goal.returns-in-0
returns-in-0 c = sym (size_nil c.args.most c.args.s.now c.in-0.is)

pub returns-in-1-to-18 : goal.returns-in-1-to-18
returns-in-1-to-18 c = c.few_digits.ensures ∙ sym (size_some c.args.most c.args.s.now (omega arith))

pub returns-in_default : goal.returns-in_default
returns-in_default c = c.many_digits.ensures ∙ sym (size_some c.args.most c.args.s.now (omega arith))
