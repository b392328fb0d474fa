use Rattle.links.proofs.Counts.{tasks_next, tasks_end}
use Rattle.links.proofs.counting.count_fates.Goals as goal

pub loop-task-preserved : goal.loop-task-preserved
loop-task-preserved c = tasks_next _ _ c.loop-task.invariant c.in-Some.ensures.steps.0 c.counted_in-count.ensures

pub returns : goal.returns
returns c = tasks_end _ _ c.default-count.ensures c.loop-task.invariant c.in-None.ensures.steps.0
