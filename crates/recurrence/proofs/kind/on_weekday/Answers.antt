use Rattle.recurrence.proofs.Months.{sunday_less}
use native.Mathlib.Omega.{arith}
use Rattle.recurrence.proofs.kind.on_weekday.Goals as goal

pub overflow_shr-result : goal.overflow_shr-result
overflow_shr-result c = omega (arith, c.sunday_first.ensures, sunday_less c.args.d)
