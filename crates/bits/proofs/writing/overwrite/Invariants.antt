use mathlib.Core.Path.{◌≡◌}
use Prim.Native.Nat.{◌+◌, ◌-◌, ◌*◌, ◌/◌, ◌^◌, ◌<◌, ◌≤◌}
use lib.ListN.{length}
use Rattle.definition.specs.Bits.{enc, bits_of}
use Rattle.bits.specs.Over.{over}
use Rattle.bits.proofs.writing.overwrite.Given as goal

abbrev pub invariant-loop-left : goal.invariant-loop-left
invariant-loop-left l = (8 * l.q.byte + l.q.bit + l.left ≡ 8 * l.fn.p.byte + l.fn.p.bit + l.width) × (l.q.bit < 8) × (l.left ≤ l.width) × (8 * l.fn.p.byte + l.fn.p.bit + l.width ≤ 8 * length l.initial.out) × (l.width ≤ 64) × (length l.out ≡ length l.initial.out) × (bits_of l.out ≡ over (8 * l.fn.p.byte + l.fn.p.bit) (enc (l.width - l.left) (l.v / 2 ^ l.left)) (bits_of l.initial.out))

abbrev pub decreases-loop-left : goal.decreases-loop-left
decreases-loop-left l = l.left
