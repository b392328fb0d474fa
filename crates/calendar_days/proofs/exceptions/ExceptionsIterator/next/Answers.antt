use Rattle.std.proofs.Common.{length, ap, arith}
use Rattle.calendar_days.proofs.Elements.{week_day_more, week_day_of, recurring_more, recurring_of, no_more}
use Rattle.calendar_days.proofs.exceptions.ExceptionsIterator.next.Goals as goal

pub returns-in-Some-clause-steps : goal.returns-in-Some-clause-steps
returns-in-Some-clause-steps c = let x = c.args.self.now.recurring in (week_day_more x c.in-Some.is c.next-self.ensures, week_day_of x c.in-Some.is c.next-self.ensures)

pub returns-in-Some-clause-goes : goal.returns-in-Some-clause-goes
returns-in-Some-clause-goes c = record {
  on = λ f. (tt, f, omega (arith, ap length (week_day_more c.args.self.now.recurring c.in-Some.is c.next-self.ensures)));
  keeps = tt;
  rests = λ f. tt;
}

pub returns-in_err-e-clause-steps : goal.returns-in_err-e-clause-steps
returns-in_err-e-clause-steps c = let n = no_more c.in_default.is c.in_err-e.was in rw c.from_residual.ensures (n, n)

pub returns-clause-steps : goal.returns-clause-steps
returns-clause-steps c = (recurring_more c.in_default.is c.in_ok-e.was c.next-self-2.ensures, recurring_of c.in_default.is c.in_ok-e.was c.next-self-2.ensures)

pub returns-clause-goes : goal.returns-clause-goes
returns-clause-goes c = record { on = λ f. (tt, f, omega (arith, ap length (recurring_more c.in_default.is c.in_ok-e.was c.next-self-2.ensures))); keeps = tt; rests = λ f. tt }
