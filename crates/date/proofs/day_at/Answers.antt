use Prim.Native.Nat.{◌+◌}
use Rattle.laws.specs.Calendar.{new_year_next, year_length_lem}
use Rattle.date.proofs.Steps.{new_year_most, month_most, day_early, day_late}
use native.Mathlib.Omega.{arith}
use Rattle.date.proofs.day_at.Goals as goal

pub overflow_add-result : goal.overflow_add-result
overflow_add-result c = omega (arith, c.new_year.ensures, new_year_most c.args.y)

pub overflow_add-result-then-m-lt3 : goal.overflow_add-result-then-m-lt3
overflow_add-result-then-m-lt3 c =
    omega (arith, c.new_year.ensures, new_year_most c.args.y, c.requires.day.last, month_most c.args.y c.args.m)

pub returns-then-m-lt3 : goal.returns-then-m-lt3
returns-then-m-lt3 c =
    let s = c.args in
    rw c.new_year.ensures (day_early s.y s.m s.d c.if-m-lt3.true)

pub overflow_sub-result-2 : goal.overflow_sub-result-2
overflow_sub-result-2 c =
    let y = c.args.y in
    omega (arith, c.new_year-2.ensures, new_year_next y, year_length_lem y)

pub overflow_add-result-3 : goal.overflow_add-result-3
overflow_add-result-3 c =
    omega (arith, c.new_year-2.ensures, new_year_most (c.args.y + 1), c.requires.day.last, month_most c.args.y c.args.m)

pub returns : goal.returns
returns c =
    let s = c.args in
    rw c.new_year-2.ensures (day_late s.y s.m s.d c.if-m-lt3.false (omega arith))
