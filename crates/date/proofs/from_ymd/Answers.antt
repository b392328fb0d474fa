use mathlib.Core.Path.{◌≡◌, ◌∙◌, sym, ap}
use Prim.Native.Nat.{ℕ, ◌<◌, ◌^◌}
use lib.IntN.{pos, ◌-ℤ◌}
use Rattle.definition.specs.Date.{year_at, from_ymd, day_number, epoch}
use Rattle.std.specs.Prelude.{Some}
use Rattle.date.specs.Answer.{is_day}
use Rattle.definition.specs.Answer.{date_meaning, day_number_of}
use Rattle.laws.specs.Calendar.{IsDay}
use Rattle.date.proofs.Steps.{tested, date_most}
use Rattle.date.proofs.Signs.{back, year_counted}
use Rattle.date.specs.Scale.{at_most_lem}
use native.Mathlib.Omega.{arith}
use Rattle.date.proofs.from_ymd.Goals as goal
use Rattle.date.proofs.from_ymd.Goals.{Else-not-is_day, In_ok-y}

given : (c : In_ok-y) → year_at c.args.year ≡ Some c.in_ok-y.y
given c = sym (c.in_ok-y.ensures ∙ ap year_at (back c.args.year c.ranges.year))

valid : (c : Else-not-is_day) → IsDay c.in_ok-y.y c.args.month c.args.day
valid c = tested _ _ _ (sym c.if-not-is_day.ensures)

pub returns-in_err-y : goal.returns-in_err-y
unfolding date_meaning day_number_of from_ymd
returns-in_err-y c = rw (c.from_residual.ensures, ← back c.args.year c.ranges.year, ← c.in_err-y.ensures)

pub returns-then-not-is_day : goal.returns-then-not-is_day
unfolding date_meaning day_number_of from_ymd is_day
returns-then-not-is_day c = rw (given (goal.at.returns-then-not-is_day c).In_ok-y, ← c.if-not-is_day.ensures)

pub day_at-requires : goal.day_at-requires
day_at-requires c =
    let k = year_counted _ c.in_ok-y.y (given (goal.at.day_at-requires c).In_ok-y) in
    record { year = omega (arith, k.high); day = valid (goal.at.day_at-requires c).Else-not-is_day }

pub returns : goal.returns
unfolding date_meaning day_number_of from_ymd is_day day_number
returns c =
    let v = valid (goal.at.returns c).Else-not-is_day in
    let k = year_counted _ c.in_ok-y.y (given (goal.at.returns c).In_ok-y) in
    let m : c.day_at.result < 2 ^ 31 = omega (arith, c.day_at.ensures, date_most _ _ _ v, k.high) in
    rw (given (goal.at.returns c).In_ok-y, ← c.if-not-is_day.ensures)
    (ap Some (at_most_lem c.at_count.ensures m ∙ ap (λ (k : ℕ). pos k -ℤ pos epoch) c.day_at.ensures))
