use Prim.Native.Nat.{◌+◌, ◌≤◌}
use mathlib.Core.Path.{◌≡◌}
use lib.ListN.{length}
use Rattle.definition.specs.Task.{most_tasks}
use Rattle.links.specs.Fates.{task_in}
use Rattle.rows.specs.Walks.{kept_left, KeptOf}
use Rattle.tree.specs.Root.{root_at}
use Rattle.activities.proofs.Turn.{Stays, Goes}
use Rattle.activities.proofs.put_tasks.Given as goal

abbrev pub invariant-loop-task : goal.invariant-loop-task
invariant-loop-task l =
    let x = l.section in
    let root = root_at x.root in
    (length l.out ≡ length l.initial.out) × (l.done.count + length (kept_left l.task-iterator) ≤ most_tasks) × Goes (task_in x.root l.initial.words x.tasks) l.initial.out x.calendars root x.start l.out l.done.next l.done.count (kept_left l.task-iterator)
    × Stays x.root.tree.now root x.tasks x.own x.start l.initial.words l.words l.out l.done.next l.done.count × KeptOf l.task-iterator x.root.tree.now
