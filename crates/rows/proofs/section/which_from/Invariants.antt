use Rattle.std.proofs.Common.{length}
use Rattle.tree.specs.Place.{list_of}
use Rattle.rows.proofs.Walking.{Left}
use Rattle.rows.proofs.section.which_from.Given as goal

abbrev pub invariant-loop-next : goal.invariant-loop-next
invariant-loop-next g l = Left l.name g.T.Test.test l.initial.next l.next

abbrev pub decreases-loop-next : goal.decreases-loop-next
decreases-loop-next g l = length (list_of l.name l.next)
