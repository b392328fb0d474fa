use Rattle.std.proofs.Common.{length, refl, ap, arith}
use Rattle.calendar_days.proofs.RuleDays.{none_left, day_left, done_left, year_left}
use Rattle.calendar_days.proofs.exceptions.DaysIterator.next.Goals as goal
use Rattle.std.specs.Prelude.{Some}

pub returns-in_err-rule-clause-steps : goal.returns-in_err-rule-clause-steps
returns-in_err-rule-clause-steps c = rw c.from_residual.ensures (none_left c.args.self.now c.in_err-rule.was, none_left c.args.self.now c.in_err-rule.was)

pub returns-in-Day-clause-steps : goal.returns-in-Day-clause-steps
returns-in-Day-clause-steps c = day_left c.args.self.now c.in_ok-rule.was c.next.ensures _ c.in-Day.is refl

pub returns-in-Day-clause-goes : goal.returns-in-Day-clause-goes
returns-in-Day-clause-goes c =
    let e = day_left c.args.self.now c.in_ok-rule.was c.next.ensures (record { left = Some (c.in_ok-rule.rule, c.in-Day.after) }) c.in-Day.is refl in
    record { on = λ f. (tt, f, omega (arith, ap length e)); keeps = tt; rests = λ f. tt }

pub returns-in-Done-clause-steps : goal.returns-in-Done-clause-steps
returns-in-Done-clause-steps c =
    let e = done_left c.args.self.now c.in_ok-rule.was c.next.ensures c.in-Done.is in
    (e, e)

pub invariant_of-result : goal.invariant_of-result
invariant_of-result c =
    record { in_years = year_left c.args.self.now (day_left c.args.self.now c.in_ok-rule.was c.next.ensures (record { left = Some (c.in_ok-rule.rule, c.in-Day.after) }) c.in-Day.is refl) }
