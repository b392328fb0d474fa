use Rattle.links.proofs.Counts.{count_next, count_end}
use Rattle.links.proofs.counting.counted_in.Goals as goal

pub loop-link-preserved : goal.loop-link-preserved
loop-link-preserved c = count_next _ _ c.loop-link.invariant c.in-Some.ensures.steps c.fate_of.ensures c.counted-count.ensures

pub returns : goal.returns
returns c = count_end _ _ c.loop-link.invariant c.in-None.ensures.steps.0
