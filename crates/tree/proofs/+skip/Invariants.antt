use Rattle.std.proofs.Common.{length}
use Rattle.tree.specs.Place.{records_at}
use Rattle.tree.proofs.Walk.{Passed}
use Rattle.tree.proofs.+skip.Given as goal

abbrev pub decreases-skip : goal.decreases-skip
decreases-skip l = length (records_at l.s.now l.from)

abbrev pub invariant-loop-h : goal.invariant-loop-h
invariant-loop-h l = Passed l.s l.from l.d l.p

abbrev pub decreases-loop-h : goal.decreases-loop-h
decreases-loop-h l = length (records_at l.s l.p)
