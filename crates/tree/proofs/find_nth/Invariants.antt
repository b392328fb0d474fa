use Rattle.std.proofs.Common.{drop}
use Rattle.definition.specs.Tree.{level}
use Rattle.tree.specs.Place.{records_at, named}
use Rattle.tree.proofs.Found.{Behind}
use Rattle.tree.proofs.find_nth.Given as goal

abbrev pub invariant-loop-e : goal.invariant-loop-e
invariant-loop-e l = Behind l.name (drop l.fn.n (named l.name (level l.fn.w (records_at l.fn.s l.fn.from)))) l.fn.s l.fn.from l.left l.e-iterator
