use Rattle.std.proofs.Common.{sym, ◌∙◌, arith}
use Rattle.rows.specs.Turns.{list_less}
use Rattle.rows.proofs.Walking.{tasks_later, kept_none, kept_out, kept_here}
use Rattle.rows.proofs.kept.kept_from.Goals as goal

pub returns : goal.returns
returns c = kept_none _ c.loop-next.invariant c.in_default.is

pub returns-then-left-eq0 : goal.returns-then-left-eq0
returns-then-left-eq0 c = kept_out _ c.loop-next.invariant c.if-left-eq0.true

pub returns-then-is_kept : goal.returns-then-is_kept
returns-then-is_kept c =
    kept_here _ c.loop-next.invariant c.in-Some.is (omega (arith, c.if-left-eq0.false)) (sym c.is_kept.ensures ∙ c.if-is_kept.true)

pub loop-next-smaller : goal.loop-next-smaller
loop-next-smaller c = list_less c.in-Some.is c.next-next.ensures

pub loop-next-preserved : goal.loop-next-preserved
loop-next-preserved c =
    tasks_later _ c.loop-next.invariant c.in-Some.is (omega (arith, c.if-left-eq0.false)) (sym c.is_kept.ensures ∙ c.if-is_kept.false) c.next-next.ensures
