use Rattle.std.proofs.Common.{ap, arith}
use Rattle.std.specs.Prelude.{Option}
use Rattle.definition.specs.declared.Period.{Period as PeriodAt}
use Rattle.definition.specs.Answer.{period_meaning}
use Rattle.calendar.proofs.Times.{rises, falls}
use Rattle.calendar.proofs.hours.time_by.Goals as goal

pub returns-in_err-from : goal.returns-in_err-from
unfolding period_meaning
returns-in_err-from c = rw c.in_err-from.was (ap (λ (o : Option PeriodAt). period_meaning o) c.from_residual.ensures)

pub returns-in_err-until : goal.returns-in_err-until
unfolding period_meaning
returns-in_err-until c = rw (c.in_ok-from.was, c.in_err-until.was) (ap (λ (o : Option PeriodAt). period_meaning o) c.from_residual-in_err-until.ensures)

pub returns-then-from-to : goal.returns-then-from-to
unfolding period_meaning
returns-then-from-to c =
    rw (c.in_ok-from.was, c.in_ok-until.was) (rises c.in_ok-from.from c.in_ok-until.until _ c.end_of-to.ensures (omega (arith, c.if-from-to.true)))

pub returns : goal.returns
unfolding period_meaning
returns c =
    rw (c.in_ok-from.was, c.in_ok-until.was) (falls c.in_ok-from.from c.in_ok-until.until _ c.end_of-to.ensures (omega (arith, c.if-from-to.false)))
