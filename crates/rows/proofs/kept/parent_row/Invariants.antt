use Rattle.std.proofs.Common.{◌≡◌, ◌-◌, ltb, map, take}
use Rattle.definition.specs.Task.{level_of, parent_of, kept_tasks}
use Rattle.tree.specs.Root.{root_at}
use Rattle.rows.specs.Walks.{kept_left}
use Rattle.rows.proofs.Lasts.{RowIn, itself}
use Rattle.rows.proofs.kept.parent_row.Given as goal

abbrev pub invariant-loop-n : goal.invariant-loop-n
invariant-loop-n l =
    RowIn itself (λ e. ltb (level_of e) l.level) (parent_of (map level_of (take l.row (kept_tasks (root_at l.root)))) l.level) l.n-iterator.a.start (take (l.row - l.n-iterator.a.start) (kept_left l.n-iterator.b)) l.found
    × (l.n-iterator.a.end ≡ l.row)
