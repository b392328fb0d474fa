use Rattle.std.proofs.Common.{◌≡◌}
use Rattle.tree.specs.Walks.{siblings_left}
use Rattle.tree.proofs.Parts.{Walked}
use Rattle.tree.proofs.root.root_of.Given as goal

abbrev pub invariant-loop-child : goal.invariant-loop-child
invariant-loop-child l =
    (l.r.tree.now ≡ l.e.tree.now)
    × (l.child-iterator.tree.now ≡ l.e.tree.now)
    × Walked l.e (siblings_left l.child-iterator) l.r
    × (goal.iterator-loop-child).can_next l.child-iterator
    × (goal.iterator-loop-child).is_finite l.child-iterator
