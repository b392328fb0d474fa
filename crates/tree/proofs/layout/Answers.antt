use mathlib.Core.Path.{sym, ◌∙◌}
use Rattle.tree.proofs.Walk.{verdict_all, left_whole, left_wrong, left_step}
use native.Mathlib.Omega.{arith}
use Rattle.tree.proofs.layout.Goals as goal

pub loop-h-init : goal.loop-h-init
loop-h-init c = (verdict_all _, omega arith)

pub returns-then-not-right_at : goal.returns-then-not-right_at
returns-then-not-right_at c = sym (c.loop-h.invariant.0 ∙ left_wrong _ _ _ _ c.in-Some.ensures (sym c.right_at.ensures ∙ c.if-not-right_at.true))

pub loop-h-preserved : goal.loop-h-preserved
loop-h-preserved c = (c.loop-h.invariant.0 ∙ left_step _ _ _ _ c.in-Some.ensures (sym c.right_at.ensures ∙ c.if-not-right_at.false), omega (arith, c.in-Some.ensures))

pub returns : goal.returns
returns c = c.then_some.ensures ∙ sym (c.loop-h.invariant.0 ∙ left_whole _ _ _ _ c.in_default.ensures)
