use Rattle.std.proofs.Common.{◌≡◌, length}
use Rattle.definition.specs.Resource.{work_resources}
use Rattle.tree.specs.Root.{root_at}
use Rattle.rows.specs.Tables.{elements_left}
use Rattle.assignments.proofs.Work.{Going-in}
use Rattle.assignments.proofs.resource.Section.put.Given as goal

abbrev pub invariant-loop-e : goal.invariant-loop-e
invariant-loop-e l =
    (length l.out ≡ length l.initial.out) × (length l.words ≡ length l.initial.words)
    × Going-in l.self (work_resources (root_at l.self.root)) (elements_left l.e-iterator) l.initial.out l.initial.words l.out l.words l.done
