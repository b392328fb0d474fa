use Rattle.std.proofs.Common.{◌+◌}
use Rattle.definition.specs.Ascii.{bytes}
use Rattle.tree.specs.Root.{root_at, in_calendars}
use Rattle.rows.specs.Turns.{picks_same, past_all}
use Rattle.rows.proofs.Walking.{order_first}
use Rattle.rows.proofs.built.first_calendar.Goals as goal

pub returns-clause-is : goal.returns-clause-is
returns-clause-is c =
    let root = c.args.root in
    order_first (root_at root) (picks_same (in_calendars root (bytes "Calendar")) (rw c.part.ensures at c.first_which.ensures)) c.or_derived.ensures

pub returns-clause-there : goal.returns-clause-there
returns-clause-there c =
    let root = c.args.root in
    let first = rw c.part.ensures at c.first_which.ensures in
    c.or_derived.ensures.there (past_all root.tree.now (root.calendars + 1) c.first_which.result first.there)
