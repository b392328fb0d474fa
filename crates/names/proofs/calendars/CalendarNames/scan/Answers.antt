-- `names::calendars::CalendarNames::scan` meets its contract. Assumes nothing.
use Rattle.std.proofs.Common.{None, Some, sym, ap, ◌∙◌}
use Rattle.definition.specs.Text.{Text}
use Rattle.tree.specs.Root.{root_at}
use Rattle.pack.specs.Value.{starred_by, name_meaning}
use Rattle.names.proofs.Found.{is_there, is_absent}
use Rattle.names.proofs.Answered.{scan_there, scan_absent}
use Rattle.names.proofs.calendars.CalendarNames.scan.Goals as goal

pub returns-clause-is : goal.returns-clause-is
unfolding name_meaning
returns-clause-is c =
    let a = c.args in
    let x = c.calendar_with in
    ap (λ (t : Text). Some (starred_by t c.in_ok-stars.stars)) (sym c.calendar_text-text.ensures)
    ∙ scan_there a.self.out.now a.self.start (root_at a.self.root) a.uid.now _ _ (Some c.in_ok-stars.stars) (is_there x.result x.ensures.is c.in_ok-row.was) c.calendar_text-text.ensures c.stars_of-stars.ensures c.in_ok-stars.ensures

pub returns-in_err-stars-clause-is : goal.returns-in_err-stars-clause-is
unfolding name_meaning
returns-in_err-stars-clause-is c =
    let a = c.args in
    let x = c.calendar_with in
    rw c.from_residual-in_err-stars.ensures (scan_there a.self.out.now a.self.start (root_at a.self.root) a.uid.now _ _ None (is_there x.result x.ensures.is c.in_ok-row.was) c.calendar_text-text.ensures c.stars_of-stars.ensures c.in_err-stars.ensures)

pub returns-in_err-row-clause-is : goal.returns-in_err-row-clause-is
returns-in_err-row-clause-is c =
    let a = c.args in
    let x = c.calendar_with in
    rw c.from_residual.ensures (scan_absent a.self.out.now a.self.start (root_at a.self.root) a.uid.now (is_absent x.result x.ensures.is c.in_err-row.was))
