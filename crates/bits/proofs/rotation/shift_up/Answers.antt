use mathlib.Core.Path.{refl, ◌∙◌}
use Rattle.bits.specs.Places.{at}
use Rattle.bits.proofs.Rotating.{move_none}
use Rattle.bits.proofs.Rotating.{shift_turn}
use native.Mathlib.Omega.{arith}
use Rattle.bits.proofs.rotation.shift_up.Goals as goal

pub loop-n-init : goal.loop-n-init
loop-n-init c =
    (omega arith, omega arith, omega arith, omega arith, c.run_length-n.ensures.2, omega arith, omega arith, omega arith, refl, move_none (at c.args.e) _ _)

pub loop-n-preserved : goal.loop-n-preserved
loop-n-preserved c =
    let l = c.loop-n in
    let a = c.args in (
      omega arith,
      omega arith,
      omega arith,
      omega arith,
      c.run_length-n-in-loop-n.ensures.2,
      omega arith,
      omega arith,
      omega arith,
      c.overwrite.ensures.same ∙ l.invariant.8,
      shift_turn a.out.now l.out _ (at a.e) a.k l.p c.place_before-p.result l.n l.invariant.8 l.invariant.9 (omega arith) (omega arith) c.place_before-p.ensures.0 c.place_before-p.ensures.1 c.take-f.ensures
          c.place_after.ensures.0 c.place_after.ensures.1 c.overwrite.ensures,
    )
