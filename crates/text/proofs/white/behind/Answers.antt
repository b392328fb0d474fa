use mathlib.Core.Path.{sym, ◌∙◌}
use Rattle.text.proofs.Strip.{front_three}
use Rattle.text.proofs.white.behind.Goals as goal

pub returns-in-len3-up : goal.returns-in-len3-up
returns-in-len3-up c =
    front_three c.args.s.now (sym c.white1.ensures ∙ c.if-white1.false) (sym c.white2.ensures ∙ c.if-white2.false) (sym c.white3.ensures ∙ c.if-white3.true) c.in-len3-up.len_at_least
