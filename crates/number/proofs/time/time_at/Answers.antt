use Rattle.std.proofs.Common.{sym, ◌∙◌, rules}
use Rattle.number.proofs.Times.{too_late, too_many, timed}
use Rattle.number.proofs.time.time_at.Goals as goal
use Rattle.number.proofs.time.time_at.Goals.{then-h-gt24-via-then-h-gt24, then-h-gt24-via-else-h-gt24+then-m-ge60}

pub returns-then-h-gt24 : goal.returns-then-h-gt24
returns-then-h-gt24 c =
    elim c.then-h-gt24.branch [
      | then-h-gt24-via-then-h-gt24 w ↦ sym (too_late c.args.h c.args.m w.if-h-gt24.true)
      | then-h-gt24-via-else-h-gt24+then-m-ge60 w ↦ sym (too_many c.args.h c.args.m w.if-h-gt24.false w.if-m-ge60.true)
    ]

pub returns : goal.returns
returns c = c.then_some.ensures ∙ timed c.args.h c.args.m (search rules) (search rules)
