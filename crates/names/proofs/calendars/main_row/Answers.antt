use Rattle.std.proofs.Common.{rules}
use Rattle.tree.specs.Root.{root_at}
use Rattle.names.proofs.Found.{row_is}
use Rattle.names.proofs.calendars.main_row.Goals as goal

pub returns : goal.returns
returns c = row_is (root_at c.args.root) _ c.main_calendar.ensures.is (search rules)
