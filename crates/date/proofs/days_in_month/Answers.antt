use Rattle.std.proofs.Common.{rules, tests}
use mathlib.Core.Path.{◌≡◌, ◌∙◌, sym, ap}
use Rattle.std.specs.Prelude.{Some}
use Rattle.definition.specs.Base.{within}
use Rattle.definition.specs.Date.{year_at}
use Rattle.date.specs.Answer.{length_at}
use Rattle.date.proofs.Signs.{back, then_when}
use Rattle.date.proofs.days_in_month.Goals as goal

pub returns-in_err-y : goal.returns-in_err-y
unfolding length_at
returns-in_err-y c = rw (c.from_residual.ensures, ← back c.args.year c.ranges.year, ← c.in_err-y.ensures)

pub returns : goal.returns
unfolding length_at
returns c =
    let e : year_at c.args.year ≡ Some c.in_ok-y.y = sym (c.in_ok-y.ensures ∙ ap year_at (back c.args.year c.ranges.year)) in
    let m : c.contains.result ≡ within 1 12 c.args.month = search (rules, tests) in
    rw (e, ← m, ← c.month_length.ensures) (c.then_some.ensures ∙ then_when c.contains.result c.month_length.result)
