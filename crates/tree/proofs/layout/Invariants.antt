use mathlib.Core.Path.{◌≡◌}
use Prim.Native.Nat.{◌≤◌, ◌-◌}
use lib.ListN.{length}
use Rattle.tree.specs.Place.{verdict}
use Rattle.tree.proofs.Walk.{left}
use Rattle.tree.proofs.layout.Given as goal

abbrev pub invariant-loop-h : goal.invariant-loop-h
invariant-loop-h l = (verdict l.s ≡ left l.prev l.count l.s l.at) × ((l.at ≤ length l.s) × (l.count ≤ l.at))

abbrev pub decreases-loop-h : goal.decreases-loop-h
decreases-loop-h l = length l.s - l.at
