use Rattle.std.proofs.Common.{◌≡◌, ◌≤◌, rules, arith}
use Rattle.std.proofs.lemmas.Grind.{common_steps}
use Rattle.calendars.proofs.Builts.{row_none, row_at}
use Rattle.calendars.proofs.built.Section.base_at.Goals as goal

pub returns-in_err-row : goal.returns-in_err-row
returns-in_err-row c =
    let le : c.args.count ≤ c.args.row = grind (arith, common_steps) in
    rw c.from_residual.ensures (row_none {row = c.args.row} le)

pub returns-then-count-row : goal.returns-then-count-row
returns-then-count-row c =
    let e : c.in_ok-row.row ≡ c.args.row = search rules in
    row_none {row = c.args.row} (omega arith)

pub returns : goal.returns
returns c =
    let e : c.in_ok-row.row ≡ c.args.row = search rules in
    row_at {row = c.args.row} (omega arith) (rw e at c.place_in-p.ensures) c.calendar_places.ensures
