use mathlib.Core.Path.{◌∙◌}
use Rattle.bits.proofs.Rotating.{rotate_last_done}
use native.Mathlib.Omega.{arith}
use Rattle.bits.proofs.rotation.rotate_last.Goals as goal

pub returns : goal.returns
returns c =
    let a = c.args in (
      c.overwrite.ensures.same ∙ c.shift_up.ensures.0,
      rotate_last_done a.out.now _ _ a.a a.e c.place_before-m.result a.k (omega arith) (omega arith) (omega arith) c.place_before-m.ensures.0 c.place_before-m.ensures.1 c.take-f.ensures c.shift_up.ensures.0 c.shift_up.ensures.1 c.overwrite.ensures,
    )
