use Rattle.tree.specs.Place.{meaning}
use Rattle.calendar.proofs.Counts.{skipped_lem}
use Rattle.calendar.proofs.exception.skipped_by.Goals as goal

pub returns : goal.returns
returns c = skipped_lem (meaning c.args.e) c.child.result c.child.ensures c.map_or.ensures
