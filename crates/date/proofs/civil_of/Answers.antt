use mathlib.Core.Path.{ap, sym, subst}
use Prim.Native.Nat.{ℕ, ◌+◌, ◌*◌, ◌/◌, ◌%◌}
use lib.IntN.{ℤ}
use Rattle.laws.specs.Calendar.{Falls, year_length_lem}
use Rattle.definition.specs.Date.{ymd_of}
use Rattle.date.proofs.Signs.{difference_back}
use Rattle.date.proofs.Steps.{civil_late, civil_early, leap_day_le, march_year, year_most}
use native.Mathlib.Omega.{arith}
use Rattle.date.proofs.civil_of.Goals as goal
use Rattle.date.proofs.civil_of.Goals.{Joined-m-lt306, then-m-lt306, else-m-lt306}

falls : (c : Joined-m-lt306) → Falls c.args.d c.if-m-lt306.year.0 c.if-m-lt306.year.1 ((c.march_of-m.result.day * 5 + 461) % 153 / 5 + 1)
falls c =
    let t = λ (p : ℕ × ℕ). Falls c.args.d p.0 p.1 ((c.march_of-m.result.day * 5 + 461) % 153 / 5 + 1) in
    elim c.if-m-lt306.branch [
      | then-m-lt306 w ↦ subst t (sym w.year-is) (civil_late c.args.d _ _ c.march_of-m.ensures w.if-m-lt306.true)
      | else-m-lt306 w ↦ subst t (sym w.year-is) (civil_early c.args.d _ _ c.march_of-m.ensures w.if-m-lt306.false)
    ]

pub overflow_mul-k : goal.overflow_mul-k
overflow_mul-k c = omega (arith, c.march_of-m.ensures.short, year_length_lem c.march_of-m.result.year, leap_day_le c.march_of-m.result.year)

pub overflow_add-k : goal.overflow_add-k
overflow_add-k c = omega (arith, c.march_of-m.ensures.short, year_length_lem c.march_of-m.result.year, leap_day_le c.march_of-m.result.year)

pub overflow_sub-year : goal.overflow_sub-year
overflow_sub-year c = march_year c.args.d _ _ c.march_of-m.ensures c.if-m-lt306.true

pub lowered-requires : goal.lowered-requires
lowered-requires c =
    record { small = omega (arith, year_most c.args.d, (falls (goal.at.lowered-requires c).Joined-m-lt306).year); by_small = omega arith }

pub returns : goal.returns
unfolding ymd_of
returns c =
    let f = falls (goal.at.returns c).Joined-m-lt306 in
    let b = lowered-requires (goal.at.returns c).Joined-m-lt306 in
    let y = difference_back c.if-m-lt306.year.0 _ b.small b.by_small c.lowered.result c.lowered.ensures in
    rw (f.year, f.month, f.day) (ap (λ (z : ℤ). record { year = z; month = c.if-m-lt306.year.1; day = (c.march_of-m.result.day * 5 + 461) % 153 / 5 + 1 }) y)
