use Rattle.std.proofs.Common.{rules, tests}
use Prim.Native.Nat.{ℕ}
use mathlib.Core.Path.{◌≡◌, ◌∙◌, ap}
use Rattle.definition.specs.Base.{within}
use Rattle.date.specs.Answer.{is_day}
use Rattle.date.proofs.is_day.Goals as goal

pub returns-then-contains : goal.returns-then-contains
unfolding is_day
returns-then-contains c =
    let m : c.contains.result ≡ within 1 12 c.args.m = search (rules, tests) in
    let d : c.contains-then-contains.result ≡ within 1 c.month_length.result c.args.d = search (rules, tests) in
    rw (← m, c.if-contains.true) (d ∙ ap (λ (k : ℕ). within 1 k c.args.d) c.month_length.ensures)

pub returns-else-contains : goal.returns-else-contains
unfolding is_day
returns-else-contains c =
    let m : c.contains.result ≡ within 1 12 c.args.m = search (rules, tests) in
    rw (← m, c.if-contains.false)
