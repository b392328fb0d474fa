use native.Mathlib.Omega.{arith}
use Rattle.pack.proofs.TextBits.{star_none, star_more}
use Rattle.pack.proofs.stars.put_stars.Goals as goal

pub loop-init : goal.loop-init
loop-init c =
    (omega arith, star_none c.args.out.now c.args.p)

pub loop-preserved : goal.loop-preserved
loop-preserved c =
    (omega arith, star_more c.loop.counter c.loop.invariant.1 c.put-q.ensures)
