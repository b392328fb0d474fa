-- `outline::climb` meets its contract. The invariant: the place that the definition finds from here is the one that it finds from the start. Assumes nothing.
use mathlib.Core.Path.{◌≡◌}
use Prim.Native.Nat.{◌≤◌}
use Rattle.outline.specs.Steps.{climb_of}
use Rattle.outline.proofs.climb.Given as goal

abbrev pub invariant-loop-d : goal.invariant-loop-d
invariant-loop-d l = (l.d ≤ l.fn.at.depth) × (climb_of l.work l.d l.r ≡ climb_of l.work l.fn.at.depth l.fn.at.row)
