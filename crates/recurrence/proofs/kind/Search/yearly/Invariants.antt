use Rattle.recurrence.specs.Kind.{yearly_fits}
use Rattle.recurrence.proofs.Units.{Passed}
use Rattle.definition.specs.Date.{year_of}
use Prim.Native.Nat.{◌≤◌}
use Rattle.recurrence.proofs.kind.Search.yearly.Given as goal

abbrev pub invariant-loop-y : goal.invariant-loop-y
invariant-loop-y g l = Passed (yearly_fits g.C.Candidate.positioned l.self.r l.month) year_of l.self.at l.y × (1 ≤ l.y)
