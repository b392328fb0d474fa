use mathlib.Core.Path.{◌≡◌}
use Prim.Native.Nat.{◌+◌, ◌-◌, ◌*◌, ◌<◌, ◌≤◌}
use lib.ListN.{length}
use Rattle.bits.specs.Places.{at}
use Rattle.bits.specs.Moves.{bits_from}
use Rattle.bits.specs.Steps.{Step}
use Rattle.laws.specs.Buf.{◌▷◌}
use Rattle.bits.proofs.copying.copy_all.Given as goal

abbrev pub invariant-loop-n : goal.invariant-loop-n
invariant-loop-n l = (l.q.bit < 8) × (at l.initial.q ≤ at l.q) × (at l.q + l.n ≤ at l.to) × (l.n ≤ 64) × (l.n ≡ 0 → at l.to ≡ at l.q) × (l.to.bit < 8) × (at l.to ≤ at l.initial.r) × (at l.initial.r ≤ 8 * length l.initial.out) × (l.initial.r.bit < 8) × (length l.out ≡ length l.initial.out) × Step l.initial.out l.initial.r (λ b. b ▷ bits_from (at l.initial.q) (at l.q) l.initial.out) l.out l.r

abbrev pub decreases-loop-n : goal.decreases-loop-n
decreases-loop-n l = at l.to - at l.q
