use Rattle.std.proofs.Common.{◌≡◌, ◌+◌, length}
use Rattle.calendar_days.specs.Exceptions.{items_from}
use Rattle.calendar_days.proofs.exceptions.count_of.Given as goal

abbrev pub invariant-loop-next : goal.invariant-loop-next
invariant-loop-next l = l.n + length (items_from l.next) ≡ length (items_from l.initial.next)

abbrev pub decreases-loop-next : goal.decreases-loop-next
decreases-loop-next l = length (items_from l.next)
