use mathlib.Core.Path.{ap}
use native.Mathlib.Omega.{arith}
use Rattle.laws.specs.Calendar.{is_day_lem}
use Rattle.recurrence.specs.declared.scale.Month.{Month}
use Rattle.recurrence.proofs.Bounds.{year_last}
use Rattle.recurrence.proofs.scale.month_at.Goals as goal

pub overflow_mul-result : goal.overflow_mul-result
overflow_mul-result c =
    omega (arith, ap (λ (v : Month). v.year) c.month_on-c.ensures, year_last c.args.d c.requires.high)

pub overflow_sub-result : goal.overflow_sub-result
overflow_sub-result c =
    let i = is_day_lem c.args.d in
    omega (arith, ap (λ (v : Month). v.month) c.month_on-c.ensures, i.low)

pub overflow_add-result : goal.overflow_add-result
overflow_add-result c =
    let i = is_day_lem c.args.d in
    omega (arith, ap (λ (v : Month). v.year) c.month_on-c.ensures, ap (λ (v : Month). v.month) c.month_on-c.ensures, year_last c.args.d c.requires.high, i.high)
