use mathlib.Core.Path.{ap, ◌∙◌}
use Rattle.std.proofs.Common.{rules}
use lib.IntN.{ℤ}
use mir.Syntax.{w32}
use mir.Val.{SFits}
use Rattle.definition.specs.Text.{before, signed_of, unsigned_of}
use Rattle.definition.specs.Date.{dash, date_parts, from_ymd}
use Rattle.definition.specs.Answer.{date_meaning, day_number_of}
use Rattle.date.proofs.Signs.{back}
use Rattle.date.proofs.Texts.{nothing}
use Rattle.date.proofs.date_parts.Goals as goal

pub returns-in_err-year : goal.returns-in_err-year
unfolding date_parts date_meaning day_number_of
returns-in_err-year c = rw (c.from_residual.ensures, c.in_err-year.ensures.1, nothing (signed_of 32 (before dash c.args.s.now)))

pub returns-in_err-month : goal.returns-in_err-month
unfolding date_parts date_meaning day_number_of
returns-in_err-month c =
    rw (c.from_residual-in_err-month.ensures, c.in_ok-year.ensures.1, ← c.in_ok-year.rest-is, c.in_err-month.ensures.1)
    (rw (nothing (unsigned_of 32 (before dash c.in_ok-year.rest.now)), nothing (signed_of 32 (before dash c.args.s.now))))

pub returns-in_err-whole_of : goal.returns-in_err-whole_of
unfolding date_parts date_meaning day_number_of
returns-in_err-whole_of c =
    rw (c.from_residual-in_err-whole_of.ensures, c.in_ok-year.ensures.0, ← c.in_ok-year.year-is, ← c.in_err-whole_of.ensures)

pub returns-in_err-whole_of-2 : goal.returns-in_err-whole_of-2
unfolding date_parts date_meaning day_number_of
returns-in_err-whole_of-2 c =
    rw (c.from_residual-in_err-whole_of-2.ensures, c.in_ok-year.ensures.1, ← c.in_ok-year.rest-is, c.in_ok-month.ensures.0, ← c.in_ok-month.month-is, ← c.in_err-whole_of-2.ensures)
    (rw (nothing (signed_of 32 (before dash c.args.s.now))))

pub returns-in_err-whole_of-3 : goal.returns-in_err-whole_of-3
unfolding date_parts date_meaning day_number_of
returns-in_err-whole_of-3 c =
    rw (c.from_residual-in_err-whole_of-3.ensures, c.in_ok-year.ensures.0, c.in_ok-year.ensures.1, ← c.in_ok-year.year-is, ← c.in_ok-year.rest-is, c.in_ok-month.ensures.0, c.in_ok-month.ensures.1, ← c.in_ok-month.month-is, ← c.in_ok-month.day-is, ← c.in_ok-whole_of.ensures, ← c.in_ok-whole_of-2.ensures, ← c.in_err-whole_of-3.ensures)

pub returns : goal.returns
unfolding date_parts
returns c =
    let f : SFits w32 c.in_ok-whole_of.field-0 = search rules in
    rw (c.in_ok-year.ensures.0, c.in_ok-year.ensures.1, ← c.in_ok-year.year-is, ← c.in_ok-year.rest-is, c.in_ok-month.ensures.0, c.in_ok-month.ensures.1, ← c.in_ok-month.month-is, ← c.in_ok-month.day-is, ← c.in_ok-whole_of.ensures, ← c.in_ok-whole_of-2.ensures, ← c.in_ok-whole_of-3.ensures)
    (c.from_ymd.ensures ∙ ap (λ (z : ℤ). day_number_of (from_ymd z c.in_ok-whole_of-2.field-0 c.in_ok-whole_of-3.field-0)) (back c.in_ok-whole_of.field-0 f))
