use Rattle.std.proofs.Common.{ap, ◌∙◌, sym, rules, arith}
use Rattle.recurrence.specs.Element.{pick_of}
use Rattle.recurrence.proofs.Fields.{pick_held}
use Rattle.recurrence.proofs.element.pick.Goals as goal

pub returns-in-Some : goal.returns-in-Some
returns-in-Some c =
    let a = c.args in
    c.unwrap_or.ensures
    ∙ pick_held a.most a.below a.absent c.in-Some.n (search rules) c.from.result (search rules) c.from.ensures (omega arith) c.min.result (search rules) c.min.ensures.value c.try_from.result c.try_from.ensures
    ∙ ap (pick_of a.most a.below a.absent) (sym c.in-Some.is)

pub returns-in-None : goal.returns-in-None
unfolding pick_of
returns-in-None c = rw c.in-None.is
