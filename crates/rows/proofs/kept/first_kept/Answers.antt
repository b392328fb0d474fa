use Rattle.definition.specs.Ascii.{bytes}
use Rattle.tree.specs.Root.{root_at, in_tasks}
use Rattle.rows.specs.Turns.{starts_same}
use Rattle.rows.proofs.Walking.{kept_first, kept_there}
use Rattle.rows.proofs.kept.first_kept.Goals as goal

pub returns-clause-is : goal.returns-clause-is
returns-clause-is c =
    let root = c.args.root in
    kept_first (root_at root) (starts_same (in_tasks root (bytes "Task")) (rw c.part.ensures at c.child.ensures)) c.kept_from.ensures

pub returns-clause-there : goal.returns-clause-there
returns-clause-there c = kept_there (rw c.part.ensures at c.child.ensures) c.kept_from.ensures
