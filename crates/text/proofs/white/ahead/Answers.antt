use mathlib.Core.Path.{sym, ◌∙◌}
use Rattle.text.proofs.Strip.{back_one, back_two, back_three}
use Rattle.text.proofs.white.ahead.Goals as goal

pub returns-in-len1-up-2 : goal.returns-in-len1-up-2
returns-in-len1-up-2 c = back_one c.args.s.now (sym c.white1.ensures ∙ c.if-white1.true) c.in-len1-up-2.len_at_least

pub returns-in-len2-up : goal.returns-in-len2-up
returns-in-len2-up c = back_two c.args.s.now (sym c.white1.ensures ∙ c.if-white1.false) (sym c.white2.ensures ∙ c.if-white2.true) c.in-len2-up.len_at_least

pub returns-in-len3-up : goal.returns-in-len3-up
returns-in-len3-up c =
    back_three c.args.s.now (sym c.white1.ensures ∙ c.if-white1.false) (sym c.white2.ensures ∙ c.if-white2.false) (sym c.white3.ensures ∙ c.if-white3.true) c.in-len3-up.len_at_least
