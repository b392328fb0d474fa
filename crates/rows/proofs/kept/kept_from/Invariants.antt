use Rattle.std.proofs.Common.{length}
use Rattle.definition.specs.Ascii.{bytes}
use Rattle.tree.specs.Place.{list_of}
use Rattle.rows.proofs.Walking.{TasksIn}
use Rattle.rows.proofs.kept.kept_from.Given as goal

abbrev pub invariant-loop-next : goal.invariant-loop-next
invariant-loop-next l = TasksIn l.initial.next l.most l.next l.left

abbrev pub decreases-loop-next : goal.decreases-loop-next
decreases-loop-next l = length (list_of (bytes "Task") l.next)
