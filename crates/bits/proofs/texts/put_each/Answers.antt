use native.Mathlib.Omega.{arith}
use Rattle.bits.proofs.Bytes.{each_none, each_more}
use Rattle.bits.proofs.texts.put_each.Goals as goal

pub loop-b-init : goal.loop-b-init
loop-b-init c =
    each_none c.args.out.now c.args.p

pub loop-b-preserved : goal.loop-b-preserved
loop-b-preserved c =
    each_more c.args.s.now c.loop-b.b-index (omega arith) c.from.ensures c.loop-b.invariant c.put-q.ensures
