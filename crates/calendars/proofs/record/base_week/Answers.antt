use Rattle.std.proofs.Common.{ap, arith}
use Rattle.bits.specs.Reads.{field_lt}
use Rattle.calendars.proofs.WeekHours.{week_at, week_default}
use Rattle.calendars.proofs.record.base_week.Goals as goal

pub overflow_cast-result : goal.overflow_cast-result
overflow_cast-result c = let h = field_lt c.args.out.now _ 7 c.take.ensures in record { fits = omega (arith, h) }

pub returns-in-Some : goal.returns-in-Some
returns-in-Some c = rw c.in-Some.is (week_at (ap (λ x. x.value) c.take.ensures))

pub returns-in-None : goal.returns-in-None
returns-in-None c = rw c.in-None.is (week_default c.args.out.now)
