use Rattle.std.proofs.Common.{refl}
use Rattle.tree.specs.Place.{Past}
use Rattle.tree.specs.Root.{root_at}
use Rattle.rows.specs.Turns.{kept_all}
use Rattle.rows.proofs.kept.kept_tasks.Goals as goal

pub returns-clause-is : goal.returns-clause-is
returns-clause-is c = kept_all (root_at c.args.root) refl

pub returns-clause-of : goal.returns-clause-of
unfolding Past
returns-clause-of c = (refl, tt)
