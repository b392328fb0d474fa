use Rattle.std.proofs.Common.{◌≡◌}
use Rattle.definition.specs.Ascii.{bytes}
use Rattle.definition.specs.Tree.{all}
use Rattle.tree.specs.Place.{meaning, left}
use Rattle.links.specs.Fates.{found_by, counted_in}
use Rattle.links.proofs.counting.counted_in.Given as goal

abbrev pub invariant-loop-link : goal.invariant-loop-link
invariant-loop-link l = counted_in (found_by l.finder) l.initial.count (all (meaning l.task) (bytes "PredecessorLink")) ≡ counted_in (found_by l.finder) l.count (left l.link-iterator)
