use native.Mathlib.Omega.{arith}
use lib.ListN.{length-set}
use Rattle.bits.proofs.Clearing.{fill_more}
use Rattle.bits.proofs.zeros.fill_from.Goals as goal

pub loop-i-preserved : goal.loop-i-preserved
loop-i-preserved g c =
    let l = c.loop-i in
    let a = c.args in
    (omega arith, omega arith, simp length-set l.invariant.2, fill_more a.from a.x a.s.now l.i l.s (omega arith) (omega arith) l.invariant.3)
