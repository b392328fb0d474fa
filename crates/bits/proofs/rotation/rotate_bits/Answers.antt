use mathlib.Core.Path.{refl, ap, ◌∙◌}
use Prim.Native.Nat.{◌-◌}
use Rattle.definition.specs.Bits.{bits_of}
use Rattle.laws.specs.Bits.{length_bits}
use Rattle.bits.specs.Places.{at}
use Rattle.bits.specs.Moves.{rotated}
use Rattle.bits.proofs.Rotating.{rotate_none, rotate_more}
use native.Mathlib.Omega.{arith}
use Rattle.bits.proofs.rotation.rotate_bits.Goals as goal

pub loop-n-init : goal.loop-n-init
loop-n-init c =
    let b = c.args in
    (omega arith, omega arith, omega arith, omega arith, c.run_length-n.ensures.2, omega arith, omega arith, omega arith, omega arith, omega arith, refl, rotate_none (at b.a) (at b.e) (bits_of b.out.now) (omega arith))

pub loop-n-preserved : goal.loop-n-preserved
loop-n-preserved c =
    let l = c.loop-n in
    let a = c.args in (
      omega arith,
      omega arith,
      omega arith,
      omega arith,
      c.run_length-n-in-loop-n.ensures.2,
      omega arith,
      omega arith,
      omega arith,
      omega arith,
      omega arith,
      c.rotate_last.ensures.0 ∙ l.invariant.10,
      c.rotate_last.ensures.1 ∙ ap (rotated (at a.a) (at a.e - l.n) (at a.e)) l.invariant.11
          ∙ rotate_more (at a.a) (at c.place_before-t.result) (at a.e) l.n (bits_of a.out.now) (omega arith) c.place_before-t.ensures.1 (omega arith) (omega (arith, length_bits a.out.now)),
    )
