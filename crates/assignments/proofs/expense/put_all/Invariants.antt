use Rattle.std.proofs.Common.{◌≡◌, length}
use Rattle.definition.specs.Resource.{assignment_elements}
use Rattle.tree.specs.Place.{left}
use Rattle.tree.specs.Root.{root_at}
use Rattle.assignments.specs.Records.{finders_at, ends_at}
use Rattle.assignments.proofs.Writing.{Writing}
use Rattle.assignments.proofs.expense.put_all.Given as goal

abbrev pub invariant-loop-e : goal.invariant-loop-e
invariant-loop-e l = (length l.out ≡ length l.initial.out) × Writing (ends_at l.tables) (finders_at l.initial.words l.tables) (assignment_elements (root_at l.tables.root)) (left l.e-iterator) l.initial.out l.p l.initial.words l.out l.used l.words
