use mathlib.Core.Path.{◌≡◌}
use Prim.Native.Nat.{◌+◌, ◌-◌, ◌*◌, ◌<◌, ◌≤◌}
use lib.ListN.{length}
use Rattle.definition.specs.Bits.{bits_of}
use Rattle.bits.specs.Places.{at}
use Rattle.bits.specs.Moves.{rotated}
use Rattle.bits.proofs.rotation.rotate_bits.Given as goal

abbrev pub invariant-loop-n : goal.invariant-loop-n
invariant-loop-n l = (l.t.bit < 8) × (at l.m + l.n ≤ at l.t) × (at l.t ≤ at l.e) × (l.n ≤ 64) × (l.n ≡ 0 → at l.t ≡ at l.m) × (l.a.bit < 8) × (l.m.bit < 8) × (l.e.bit < 8) × (at l.a ≤ at l.m) × (at l.e ≤ 8 * length l.initial.out) × (length l.out ≡ length l.initial.out) × (bits_of l.out ≡ rotated (at l.a) (at l.t) (at l.e) (bits_of l.initial.out))

abbrev pub decreases-loop-n : goal.decreases-loop-n
decreases-loop-n l = at l.t - at l.m
