use mathlib.Core.Path.{◌≡◌}
use Prim.Native.Nat.{◌+◌, ◌-◌, ◌*◌, ◌<◌, ◌≤◌}
use lib.ListN.{length}
use Rattle.bits.specs.Window.{Read}
use Rattle.bits.proofs.reading.take.Given as goal

abbrev pub invariant-loop-left : goal.invariant-loop-left
invariant-loop-left l = (8 * l.q.byte + l.q.bit + l.left ≡ 8 * l.fn.p.byte + l.fn.p.bit + l.width) × (l.q.bit < 8) × (l.left ≤ l.width) × (8 * l.fn.p.byte + l.fn.p.bit + l.width ≤ 8 * length l.s) × (l.width ≤ 64) × Read l.s (8 * l.fn.p.byte + l.fn.p.bit) (l.width - l.left) l.value

abbrev pub decreases-loop-left : goal.decreases-loop-left
decreases-loop-left l = l.left
