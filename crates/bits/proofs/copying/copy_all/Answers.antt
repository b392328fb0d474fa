use mathlib.Core.Path.{refl}
use mathlib.Core.Path.{◌∙◌}
use Rattle.bits.specs.Places.{at}
use Rattle.bits.proofs.Copied.{copy_none, copy_more}
use native.Mathlib.Omega.{arith}
use Rattle.bits.proofs.copying.copy_all.Goals as goal

pub loop-n-init : goal.loop-n-init
loop-n-init c =
    let a = c.args in
    (omega arith, omega arith, omega arith, omega arith, c.run_length-n.ensures.2, omega arith, omega arith, omega arith, omega arith, refl, copy_none a.out.now a.p a.from)

pub loop-n-preserved : goal.loop-n-preserved
loop-n-preserved c =
    let l = c.loop-n in
    let a = c.args in (
      omega arith,
      omega arith,
      omega arith,
      omega arith,
      c.run_length-n-in-loop-n.ensures.2,
      omega arith,
      omega arith,
      omega arith,
      omega arith,
      c.overwrite-r.ensures.same ∙ l.invariant.9,
      copy_more a.out.now l.out (at a.from) a.p l.q l.n c.place_after-q.result l.invariant.10 (omega arith) (omega arith) (omega arith) (omega arith) l.invariant.0 c.take-f.ensures c.overwrite-r.ensures c.place_after-q.ensures.1,
    )
