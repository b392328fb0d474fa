use Prim.Native.Nat.{◌+◌}
use mathlib.Core.Path.{refl}
use native.Mathlib.Omega.{arith}
use Rattle.model.specs.Passes.{begun, again}
use Rattle.model.proofs.fields.skip_times.Goals as goal

pub loop-init : goal.loop-init
loop-init g c = (omega arith, begun)

pub returns-then-q-gt7 : goal.returns-then-q-gt7
returns-then-q-gt7 g c =
    record { often = c.loop.counter + 1; called = again refl c.loop.invariant.1 c.skip-q.ensures; most = omega arith; cut = λ h. omega arith }

pub loop-preserved : goal.loop-preserved
loop-preserved g c = (omega arith, again refl c.loop.invariant.1 c.skip-q.ensures)

pub returns : goal.returns
returns g c = record { often = c.loop.counter; called = c.loop.invariant.1; most = omega arith; cut = λ h. absurd (omega arith) }
