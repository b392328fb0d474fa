use Rattle.activities.specs.Climbing.{Climbing}
use Rattle.activities.proofs.parents.climb.Given as goal

abbrev pub invariant-loop-r : goal.invariant-loop-r
invariant-loop-r l = Climbing l.tree l.first l.words l.level l.row l.k

abbrev pub decreases-loop-r : goal.decreases-loop-r
decreases-loop-r l = l.k
