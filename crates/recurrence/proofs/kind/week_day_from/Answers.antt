use Rattle.recurrence.specs.Kind.{WeekDay}
use Rattle.recurrence.proofs.Fits.{week_day}
use mathlib.Core.Path.{subst⁻¹}
use Prim.Native.Nat.{ℕ}
use Rattle.recurrence.proofs.kind.week_day_from.Goals as goal

pub returns : goal.returns
returns c =
    subst⁻¹ (λ (g : ℕ). WeekDay c.args.sunday c.args.step c.args.d g) c.max.ensures (week_day c.args.sunday c.args.step c.args.d c.steps_up-q.result c.requires.sunday c.steps_up-q.ensures)
