use Rattle.rows.proofs.Walking.{kept_there}
use Rattle.rows.proofs.kept.next_kept.Goals as goal

pub returns-clause-there : goal.returns-clause-there
returns-clause-there c = kept_there c.next.ensures c.kept_from.ensures
