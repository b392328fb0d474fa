use mathlib.Core.Path.{◌≡◌}
use Prim.Native.Nat.{◌-◌, ◌≤◌}
use lib.ListN.{length}
use Rattle.bits.proofs.Clearing.{filling}
use Rattle.bits.proofs.zeros.fill_from.Given as goal

abbrev pub invariant-loop-i : goal.invariant-loop-i
invariant-loop-i g l = (l.from ≤ l.i) × (l.i - l.from ≤ length l.initial.s - l.from) × (length l.s ≡ length l.initial.s) × (l.s ≡ filling l.from l.x l.initial.s l.i)
