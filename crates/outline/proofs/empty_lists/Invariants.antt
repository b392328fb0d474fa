-- `outline::empty_lists` meets its contract. The invariant: the lists of the rows passed are empty. Assumes nothing.
use Prim.Native.Nat.{◌≤◌}
use Rattle.outline.specs.Steps.{Empty}
use Rattle.outline.proofs.empty_lists.Given as goal

abbrev pub invariant-loop-i : goal.invariant-loop-i
invariant-loop-i l = (l.i ≤ l.n) × Empty l.i l.initial.work l.work
