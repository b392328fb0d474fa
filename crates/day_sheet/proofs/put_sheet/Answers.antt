-- `day_sheet::put_sheet` meets its contract. The day that was found, put from the start on: it fitted, or not. Assumes nothing.
use borrow.Author.Rules.{rules}
use mathlib.Core.Path.{sym, ◌∙◌}
use Rattle.std.specs.Prelude.{Ok, length}
use Rattle.day_sheet.specs.Answer.{Found}
use Rattle.day_sheet.proofs.Whole.{left_short, left_written}
use Rattle.day_sheet.proofs.put_sheet.Goals as goal

pub returns-then-inside : goal.returns-then-inside
returns-then-inside c =
    let f : Found c.args.s.now c.args.calendar c.args.date.0 (Ok c.in_ok-d.d) = rw c.in_ok-d.was at c.find_day.ensures in
    rw (f.2 (length c.args.out.now)) (left_written _ _ (c.put_day-end.ensures f.0 f.1) (sym c.inside.ensures ∙ c.if-inside.true) (search rules))

pub returns-else-inside : goal.returns-else-inside
returns-else-inside c =
    let f : Found c.args.s.now c.args.calendar c.args.date.0 (Ok c.in_ok-d.d) = rw c.in_ok-d.was at c.find_day.ensures in
    rw (f.2 (length c.args.out.now)) (left_short _ _ (c.put_day-end.ensures f.0 f.1) (sym c.inside.ensures ∙ c.if-inside.false))
