use Rattle.std.proofs.Common.{◌≡◌}
use Rattle.definition.specs.Task.{kept_tasks}
use Rattle.tree.specs.Root.{root_at}
use Rattle.rows.specs.Walks.{kept_left}
use Rattle.links.specs.Fates.{found_by, counted_of}
use Rattle.links.proofs.counting.count_fates.Given as goal

abbrev pub invariant-loop-task : goal.invariant-loop-task
invariant-loop-task l = counted_of (found_by l.finder) l.initial.count (kept_tasks (root_at l.finder.root)) ≡ counted_of (found_by l.finder) l.count (kept_left l.task-iterator)
