use Rattle.recurrence.proofs.Fits.{PassedDays}
use Prim.Native.Nat.{◌+◌, ◌-◌, ◌≤◌}
use Rattle.recurrence.proofs.kind.Search.weekly.Given as goal

abbrev pub invariant-loop-self : goal.invariant-loop-self
invariant-loop-self l = PassedDays l.self.r l.self.at l.d × (l.self.at ≤ l.d) × (l.d ≤ 7304850)

abbrev pub decreases-loop-self : goal.decreases-loop-self
decreases-loop-self l = l.end + 1 - l.d
