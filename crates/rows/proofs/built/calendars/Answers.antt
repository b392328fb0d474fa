use Rattle.std.proofs.Common.{refl}
use Rattle.tree.specs.Place.{Past}
use Rattle.tree.specs.Root.{root_at}
use Rattle.rows.specs.Turns.{order_all}
use Rattle.rows.proofs.built.calendars.Goals as goal

pub returns-clause-is : goal.returns-clause-is
returns-clause-is c = order_all (root_at c.args.root) refl

pub returns-clause-of : goal.returns-clause-of
unfolding Past
returns-clause-of c = (refl, tt)
