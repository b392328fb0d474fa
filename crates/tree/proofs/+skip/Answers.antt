use Rattle.std.proofs.Common.{arith}
use Rattle.tree.proofs.Walk.{passed_cut, passed_end, passed_next, passed_below, one_less, below_shorter}
use Rattle.tree.proofs.+skip.Goals as goal

pub returns : goal.returns
returns t c = passed_cut _ _ _ _ c.loop-h.invariant c.in_default.ensures

pub returns-then-h-d : goal.returns-then-h-d
returns-then-h-d t c = passed_end _ _ _ _ c.loop-h.invariant c.in-Some.ensures c.if-h-d.true

pub loop-h-smaller-then-d-h : goal.loop-h-smaller-then-d-h
loop-h-smaller-then-d-h t c = omega (arith, below_shorter _ _ _ c.skip-p.ensures, one_less _ _ _ _ c.loop-h.invariant c.in-Some.ensures)

pub loop-h-preserved-then-d-h : goal.loop-h-preserved-then-d-h
loop-h-preserved-then-d-h t c = passed_below _ _ _ _ (passed_next _ _ _ _ c.loop-h.invariant c.in-Some.ensures c.if-h-d.false) c.skip-p.ensures

pub loop-h-preserved : goal.loop-h-preserved
loop-h-preserved t c = passed_next _ _ _ _ c.loop-h.invariant c.in-Some.ensures c.if-h-d.false
