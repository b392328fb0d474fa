use mathlib.Core.Path.{◌≡◌}
use Prim.Native.Nat.{◌+◌, ◌-◌, ◌*◌, ◌<◌, ◌≤◌}
use lib.ListN.{length}
use Rattle.definition.specs.Bits.{bits_of}
use Rattle.bits.specs.Places.{at}
use Rattle.bits.specs.Moves.{moved}
use Rattle.bits.proofs.rotation.shift_up.Given as goal

abbrev pub invariant-loop-n : goal.invariant-loop-n
invariant-loop-n l = (l.p.bit < 8) × (at l.a + l.n ≤ at l.p) × (at l.p ≤ at l.initial.p) × (l.n ≤ 64) × (l.n ≡ 0 → at l.p ≡ at l.a) × (l.a.bit < 8) × (l.k ≤ 64) × (at l.initial.p + l.k ≤ 8 * length l.initial.out) × (length l.out ≡ length l.initial.out) × (bits_of l.out ≡ moved (at l.p) (at l.p + l.k) (at l.initial.p - at l.p) (bits_of l.initial.out))

abbrev pub decreases-loop-n : goal.decreases-loop-n
decreases-loop-n l = at l.p - at l.a
