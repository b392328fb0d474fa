use mathlib.Core.Path.{ap, ◌∙◌}
use Prim.Native.Nat.{◌-◌}
use lib.ListN.{length}
use Rattle.outline.proofs.Lists.{link_on, length_link}
use native.Mathlib.Omega.{arith}
use Rattle.outline.proofs.link_rows.Goals as goal

pub loop-i-preserved : goal.loop-i-preserved
loop-i-preserved c =
    let a = c.args in (
      omega arith,
      ap length c.link.ensures ∙ length_link a.n (c.loop-i.i - 1) c.loop-i.work ∙ c.loop-i.invariant.1,
      λ ps e m. link_on ps a.n c.loop-i.i c.loop-i.work e (omega arith) (omega arith) (omega arith) (c.loop-i.invariant.2 ps e m) c.link.ensures,
    )
