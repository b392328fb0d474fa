use Rattle.std.proofs.Common.{sym, ◌∙◌}
use Rattle.rows.specs.Turns.{list_less}
use Rattle.rows.proofs.Walking.{left_later, picks_none, picks_here}
use Rattle.rows.proofs.section.which_from.Goals as goal

pub returns : goal.returns
returns g c = picks_none c.loop-next.invariant c.in_default.is

pub returns-then-passes : goal.returns-then-passes
returns-then-passes g c =
    picks_here c.loop-next.invariant c.in-Some.is (sym c.passes.ensures ∙ c.if-passes.true)

pub loop-next-smaller : goal.loop-next-smaller
loop-next-smaller g c = list_less c.in-Some.is c.next-next.ensures

pub loop-next-preserved : goal.loop-next-preserved
loop-next-preserved g c =
    left_later c.loop-next.invariant c.in-Some.is (sym c.passes.ensures ∙ c.if-passes.false) c.next-next.ensures
