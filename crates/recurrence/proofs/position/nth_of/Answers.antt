use Rattle.recurrence.proofs.Items.{of_december, of_last, of_nth, of_none}
use Rattle.laws.specs.Options.{Some-injective, never}
use Rattle.recurrence.proofs.Bounds.{first_day}
use Rattle.recurrence.proofs.Months.{month_end}
use mathlib.Core.Path.{◌≡◌, ap, sym, ◌∙◌}
use Prim.Native.Nat.{ℕ, ◌+◌, ◌<◌}
use Rattle.definition.specs.Date.{date_at}
use native.Mathlib.Omega.{arith}
use Rattle.recurrence.proofs.position.nth_of.Goals as goal
use Rattle.recurrence.proofs.position.nth_of.Goals.{After-length_in}

first_is : (c : After-length_in) → c.in_ok-first.first ≡ date_at c.args.y c.args.m 1
first_is c =
    Some-injective _ _ (sym c.in_ok-first.was ∙ c.day_in.ensures ∙ first_day c.args.y c.args.m)

pub returns-then-y-m : goal.returns-then-y-m
returns-then-y-m c = of_december _ _ _ _ c.if-y-m.true

pub returns-in_err-first : goal.returns-in_err-first
returns-in_err-first c = never (sym c.in_err-first.was ∙ c.day_in.ensures ∙ first_day c.args.y c.args.m)

pub overflow_add-end : goal.overflow_add-end
overflow_add-end c =
    omega (arith, first_is (goal.at.overflow_add-end c).After-length_in, c.length_in.ensures, month_end c.args.y c.args.m c.requires.year.1 c.requires.month)

pub returns-in-0-to-3 : goal.returns-in-0-to-3
returns-in-0-to-3 c =
    let l : c.args.position < 4 = omega (arith, c.in-0-to-3) in
    c.nth_fit.ensures ∙ of_nth c.args.y c.args.m c.args.item c.args.position c.in_ok-first.first _ (first_is (goal.at.returns-in-0-to-3 c).After-length_in) (ap (λ (n : ℕ). c.in_ok-first.first + n) c.length_in.ensures) c.if-y-m.false (λ q. omega arith) l

pub returns-in-4 : goal.returns-in-4
returns-in-4 c =
    c.last_fit.ensures ∙ of_last c.args.y c.args.m c.args.item c.args.position c.in_ok-first.first _ (first_is (goal.at.returns-in-4 c).After-length_in) (ap (λ (n : ℕ). c.in_ok-first.first + n) c.length_in.ensures) c.if-y-m.false c.in-4.is

pub returns-in_default : goal.returns-in_default
returns-in_default c =
    let l : 4 < c.args.position = omega (arith, c.in_default) in
    of_none c.args.y c.args.m c.args.item c.args.position c.in_ok-first.first _ (first_is (goal.at.returns-in_default c).After-length_in) (ap (λ (n : ℕ). c.in_ok-first.first + n) c.length_in.ensures) c.if-y-m.false (λ q. omega arith) (omega arith)
