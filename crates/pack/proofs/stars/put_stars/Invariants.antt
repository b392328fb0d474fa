use lib.ListN.{replicate}
use Prim.Native.Nat.{◌≤◌}
use Rattle.definition.specs.Bits.{bits_of}
use Rattle.laws.specs.Buf.{◌▷◌}
use Rattle.bits.specs.Steps.{Step}
use Rattle.pack.proofs.stars.put_stars.Given as goal

abbrev pub invariant-loop : goal.invariant-loop
invariant-loop l = (l.counter ≤ l.stars) × Step l.initial.out l.initial.q (λ b. b ▷ bits_of (replicate l.counter 42)) l.out l.q
