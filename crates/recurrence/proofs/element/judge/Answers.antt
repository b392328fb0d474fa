use mathlib.Core.Path.{◌≡◌}
use mathlib.Core.Bool.{true, false}
use Rattle.recurrence.specs.Meaning.{rules}
use Rattle.recurrence.specs.Element.{judged}
use Rattle.recurrence.proofs.Types.{chosen_rule, chosen_none}
use Rattle.recurrence.proofs.element.judge.Goals as goal

pub returns-in_err-kind_of : goal.returns-in_err-kind_of
unfolding judged
returns-in_err-kind_of c =
    let e : rules c.args.r.kind c.args.r.month ≡ false = chosen_none c.args.r.kind c.args.r.month c.kind_of.ensures c.in_err-kind_of.was in
    rw e c.from_residual.ensures

pub returns : goal.returns
unfolding judged
returns c =
    let e : rules c.args.r.kind c.args.r.month ≡ true = chosen_rule c.args.r.kind c.args.r.month c.kind_of.ensures c.in_ok-kind_of.was in
    rw e
