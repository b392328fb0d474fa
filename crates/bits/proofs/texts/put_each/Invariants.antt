use lib.ListN.{take}
use Rattle.definition.specs.Bits.{bits_of}
use Rattle.bits.specs.Steps.{Step}
use Rattle.laws.specs.Buf.{◌▷◌}
use Rattle.bits.proofs.texts.put_each.Given as goal

abbrev pub invariant-loop-b : goal.invariant-loop-b
invariant-loop-b l = Step l.initial.out l.initial.q (λ b. b ▷ bits_of (take l.b-index l.s)) l.out l.q
