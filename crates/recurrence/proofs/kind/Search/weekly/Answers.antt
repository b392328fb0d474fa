use Rattle.recurrence.specs.Kind.{WeekDay}
use Rattle.recurrence.proofs.Fits.{past_day, weekly_fit, sunday_of}
use Rattle.recurrence.proofs.Months.{sunday_less}
use Prim.Native.Nat.{ℕ, ◌-◌}
use mathlib.Core.Path.{sym, subst, ◌∙◌}
use native.Mathlib.Omega.{arith}
use Rattle.recurrence.proofs.kind.Search.weekly.Goals as goal
use Rattle.recurrence.proofs.kind.Search.weekly.Goals.{After-week_day_from-g}

weekday_from : (c : After-week_day_from-g) → WeekDay (sunday_of c.args.self.r) c.args.self.r.rule.period c.loop-self.d c.week_day_from-g.result
weekday_from c =
    let r = c.args.self.r in
    subst (λ (n : ℕ). WeekDay (r.from - n) r.rule.period c.loop-self.d c.week_day_from-g.result) c.sunday_first.ensures c.week_day_from-g.ensures

pub overflow_sub-sunday : goal.overflow_sub-sunday
overflow_sub-sunday c =
    omega (arith, c.sunday_first.ensures, sunday_less c.args.self.r.from, c.args.self.ready.first)

pub returns-then-on_weekday : goal.returns-then-on_weekday
returns-then-on_weekday c =
    let r = c.args.self.r in
    let w = weekday_from (goal.at.returns-then-on_weekday c).After-week_day_from-g in
    weekly_fit r c.args.self.at c.loop-self.d c.week_day_from-g.result w c.loop-self.invariant.0 (sym c.on_weekday.ensures ∙ c.if-on_weekday.true) (omega (arith, c.if-end-g.false, c.min-end.ensures)) (omega (arith, c.loop-self.invariant.1, w.on))

pub loop-self-preserved : goal.loop-self-preserved
loop-self-preserved c =
    let r = c.args.self.r in
    let w = weekday_from (goal.at.loop-self-preserved c).After-week_day_from-g in
    (past_day r c.args.self.at c.loop-self.d c.week_day_from-g.result w c.loop-self.invariant.0 (sym c.on_weekday.ensures ∙ c.if-on_weekday.false), omega (arith, c.loop-self.invariant.1, w.on), omega (arith, c.if-end-g.false, c.min-end.ensures, c.args.self.ready.last))
