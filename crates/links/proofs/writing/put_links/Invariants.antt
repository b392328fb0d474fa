use Rattle.std.proofs.Common.{◌≡◌, ◌+◌, ◌≤◌, length}
use Rattle.definition.specs.Format.{whole}
use Rattle.definition.specs.Pack.{link as link_format}
use Rattle.definition.specs.Task.{context_of, most_tasks}
use Rattle.tree.specs.Root.{root_at}
use Rattle.rows.specs.Walks.{kept_left}
use Rattle.links.specs.Fates.{found_by, links_by, links_from}
use Rattle.links.specs.More.{Left}
use Rattle.links.proofs.writing.put_links.Given as goal

abbrev pub invariant-loop-row : goal.invariant-loop-row
invariant-loop-row l =
    (length l.out ≡ length l.initial.out)
    × Left (whole link_format) (links_by (found_by l.finder) (context_of (root_at l.finder.root))) (links_from l.per_day (found_by l.finder) l.row-iterator.a.start (kept_left l.row-iterator.b)) l.initial.out l.initial.r l.out l.r
    × (l.row-iterator.a.start + length (kept_left l.row-iterator.b) ≤ most_tasks)
    × (l.row-iterator.a.end ≡ most_tasks)
