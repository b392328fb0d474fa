use lib.ListN.{length}
use mathlib.Core.Path.{refl, ap}
use native.Mathlib.Omega.{arith}
use Rattle.recurrence.proofs.Coming.{day_left, none_left}
use Rattle.recurrence.proofs.sequence.RuleDaysIterator.next.Goals as goal

pub returns-in_default : goal.returns-in_default
returns-in_default c =
    let e = none_left c.args.self.now c.next.ensures (λ d k q. c.in_default.not-Day d k q) in
    record { steps = (e, e); goes = search }

pub returns-clause-steps : goal.returns-clause-steps
returns-clause-steps c = day_left c.args.self.now c.next.ensures (record { rule = c.args.self.now.rule; cursor = c.in-Day.after }) c.in-Day.day c.in-Day.is refl

pub returns-clause-goes : goal.returns-clause-goes
returns-clause-goes c =
    let e = day_left c.args.self.now c.next.ensures (record { rule = c.args.self.now.rule; cursor = c.in-Day.after }) c.in-Day.day c.in-Day.is refl in
    record { on = λ f. (tt, f, omega (arith, ap length e)); keeps = tt; rests = λ f. tt }
