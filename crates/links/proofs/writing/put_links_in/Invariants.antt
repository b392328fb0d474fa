use Rattle.std.proofs.Common.{◌≡◌, length}
use Rattle.definition.specs.Format.{whole}
use Rattle.definition.specs.Pack.{link as link_format}
use Rattle.definition.specs.Tree.{all}
use Rattle.definition.specs.Ascii.{bytes}
use Rattle.tree.specs.Place.{meaning, left}
use Rattle.links.specs.Fates.{found_by, links_in}
use Rattle.links.specs.More.{Left}
use Rattle.links.proofs.writing.put_links_in.Given as goal

abbrev pub invariant-loop-link : goal.invariant-loop-link
invariant-loop-link l = (length l.out ≡ length l.initial.out) × Left (whole link_format) (links_in l.per_day (found_by l.finder) l.row (all (meaning l.task) (bytes "PredecessorLink"))) (links_in l.per_day (found_by l.finder) l.row (left l.link-iterator)) l.initial.out l.initial.r l.out l.r
