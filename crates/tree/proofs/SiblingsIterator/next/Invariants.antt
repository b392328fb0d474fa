use Rattle.std.proofs.Common.{◌≡◌, ◌-◌, ◌≤◌, length}
use Rattle.tree.specs.Walks.{siblings_left}
use Rattle.tree.proofs.SiblingsIterator.next.Given as goal

abbrev pub invariant-loop-h : goal.invariant-loop-h
invariant-loop-h l = (siblings_left l.initial.self ≡ siblings_left l.self) × (l.self.tree.now ≡ l.initial.self.tree.now) × (l.initial.self.at ≤ l.self.at)

abbrev pub decreases-loop-h : goal.decreases-loop-h
decreases-loop-h l = length l.self.tree.now - l.self.at
