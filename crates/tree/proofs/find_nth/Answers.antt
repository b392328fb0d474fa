use Rattle.std.proofs.Common.{sym, ◌∙◌, arith}
use Rattle.text.proofs.Equal.{same_is}
use Rattle.tree.proofs.Found.{behind_other, behind_one, behind_found, behind_none}
use Rattle.tree.proofs.find_nth.Goals as goal

pub returns-in_default : goal.returns-in_default
returns-in_default c = behind_found c.loop-e.invariant c.in-Some.ensures.steps (sym c.if-eq.true ∙ c.eq.ensures ∙ sym (same_is _ _)) (omega arith)

pub loop-e-preserved-then-eq : goal.loop-e-preserved-then-eq
loop-e-preserved-then-eq c = behind_one c.loop-e.invariant c.in-Some.ensures.steps (sym c.if-eq.true ∙ c.eq.ensures ∙ sym (same_is _ _)) _ (omega arith)

pub loop-e-preserved : goal.loop-e-preserved
loop-e-preserved c = behind_other c.loop-e.invariant c.in-Some.ensures.steps (sym c.if-eq.false ∙ c.eq.ensures ∙ sym (same_is _ _))

pub returns : goal.returns
returns c = behind_none c.loop-e.invariant c.in-None.ensures.steps.0
