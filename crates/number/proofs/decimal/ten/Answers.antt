use Rattle.std.proofs.Common.{◌^◌, ℕ, false, refl, subst, arith}
use lib.Ieee.{of_bits}
use lib.Ieee.Exact.{HasValue}
use Rattle.number.proofs.Powers.{times_ten}
use Rattle.number.proofs.decimal.ten.Goals as goal

pub loop-init : goal.loop-init
unfolding of_bits
loop-init c = (refl, refl)

pub loop-preserved : goal.loop-preserved
unfolding of_bits
loop-preserved c = times_ten _ _ c.loop.counter (omega (arith, c.loop-test.true, c.requires)) c.loop.invariant (refl, refl)

pub returns : goal.returns
returns c = subst (λ (n : ℕ). HasValue c.loop.power false (10 ^ n) 1) (omega (arith, c.loop-test.false, c.loop.auto.counter-end)) c.loop.invariant
