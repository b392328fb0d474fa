use Rattle.std.proofs.Common.{max, ap, ◌∙◌}
use Rattle.read.proofs.Tables.{resources_made}
use Rattle.read.proofs.assigned.index_resources.Goals as goal

pub returns-clause-finds : goal.returns-clause-finds
returns-clause-finds c = resources_made c.requires c.end_of-at.ensures c.index_rows-work.ensures (c.max-behind.ensures ∙ ap (max _) c.end_of.ensures) c.index_rows-cost.ensures
