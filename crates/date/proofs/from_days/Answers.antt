use mathlib.Core.Path.{◌≡◌, ◌∙◌, sym, ap}
use Rattle.std.specs.Prelude.{Some}
use Rattle.definition.specs.Date.{from_days, day_number}
use Rattle.definition.specs.Answer.{date_meaning, day_number_of}
use Rattle.date.proofs.Signs.{back, days_counted}
use Rattle.date.proofs.from_days.Goals as goal

pub returns-in_err-date_of_number : goal.returns-in_err-date_of_number
unfolding date_meaning day_number_of
returns-in_err-date_of_number c = rw (c.from_residual.ensures, ← back c.args.n c.ranges.n, ← c.in_err-date_of_number.ensures)

pub returns : goal.returns
unfolding date_meaning day_number_of day_number
returns c =
    let b = back c.args.n c.ranges.n in
    let e : from_days c.args.n ≡ Some c.in_ok-date_of_number.field-0 = sym (c.in_ok-date_of_number.ensures ∙ ap from_days b) in
    rw e (ap Some (b ∙ sym (days_counted c.args.n _ e).number))
