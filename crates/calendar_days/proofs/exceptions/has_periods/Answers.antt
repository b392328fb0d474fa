use Rattle.tree.specs.Place.{meaning}
use Rattle.calendar_days.proofs.Elements.{times_if}
use Rattle.calendar_days.proofs.exceptions.has_periods.Goals as goal

pub returns : goal.returns
returns c = times_if (meaning c.args.e) c.child.ensures c.is_some_and.ensures
