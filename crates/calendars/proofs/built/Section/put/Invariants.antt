use Rattle.std.proofs.Common.{◌≡◌, length}
use Rattle.tree.specs.Root.{root_at}
use Rattle.rows.specs.Walks.{calendars_left}
use Rattle.calendars.proofs.Builts.{Sofar}
use Rattle.calendars.proofs.built.Section.put.Given as goal

abbrev pub invariant-loop-e : goal.invariant-loop-e
invariant-loop-e l =
    (length l.out ≡ length l.initial.out) × (length l.words ≡ length l.initial.words)
    × Sofar l.self.root.tree.now (root_at l.self.root) l.self l.self.start l.initial.out l.initial.words (calendars_left l.e-iterator) l.out l.words l.done
