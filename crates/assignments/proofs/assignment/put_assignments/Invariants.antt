use Rattle.std.proofs.Common.{◌≡◌, length}
use Rattle.definition.specs.Resource.{assignment_elements}
use Rattle.tree.specs.Place.{left}
use Rattle.tree.specs.Root.{root_at}
use Rattle.assignments.specs.Records.{finders_at}
use Rattle.assignments.proofs.Assignments.{GoingOn}
use Rattle.assignments.proofs.assignment.put_assignments.Given as goal

abbrev pub invariant-loop-e : goal.invariant-loop-e
invariant-loop-e l = (length l.out ≡ length l.initial.out) × GoingOn (finders_at l.words l.tables) (assignment_elements (root_at l.tables.root)) (left l.e-iterator) l.initial.out l.fn.p l.out l.done
