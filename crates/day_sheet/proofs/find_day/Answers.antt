use mathlib.Core.Path.{◌≡◌, sym, ◌∙◌}
use native.Mathlib.Omega.{arith}
use Rattle.std.specs.Prelude.{Some, None, Err}
use Rattle.definition.specs.declared.Refusal.TheVariants.{NoModel, Outside}
use Rattle.day_sheet.proofs.Whole.{no_model, no_date, no_row, sheet_at, found}
use Rattle.day_sheet.proofs.find_day.Goals as goal

pub returns-in_err-m : goal.returns-in_err-m
returns-in_err-m c =
    let a = c.args in
    let n : c.open.result ≡ None = grind arith in
    let e : c.from_residual.result ≡ Err NoModel = grind arith in
    rw e (λ room. no_model a.calendar a.date.0 room c.open.ensures n)

pub returns-in_err-weekday : goal.returns-in_err-weekday
returns-in_err-weekday c =
    let a = c.args in
    let m : c.open.result ≡ Some c.in_ok-m.m = grind arith in
    let n : c.weekday.result ≡ None = grind arith in
    let e : c.from_residual-in_err-weekday.result ≡ Err Outside = grind arith in
    rw e (λ room. no_date a.calendar a.date.0 room c.open.ensures m (sym c.weekday.ensures ∙ n))

pub returns-then-calendars-calendar : goal.returns-then-calendars-calendar
returns-then-calendars-calendar c =
    let a = c.args in
    let m : c.open.result ≡ Some c.in_ok-m.m = grind arith in
    λ room. no_row a.calendar a.date.0 room c.open.ensures m c.if-calendars-calendar.true

pub returns : goal.returns
returns c =
    let a = c.args in
    let m : c.open.result ≡ Some c.in_ok-m.m = grind arith in
    let n : c.weekday.result ≡ Some c.in_ok-weekday.weekday = grind arith in
    let t = sheet_at a.calendar a.date.0 c.open.ensures m (sym c.weekday.ensures ∙ n) c.if-calendars-calendar.false c.skip_records-p.ensures in
    found t (c.day_of.ensures t.date t.is_date t.on t.value t.stands)
