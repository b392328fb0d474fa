use Rattle.std.proofs.Common.{drop}
use Rattle.read.proofs.Closing.{Closing}
use Rattle.read.proofs.sections.close_counts.Given as goal

abbrev pub invariant-loop-count : goal.invariant-loop-count
invariant-loop-count l = Closing l.count-items (drop l.count-index l.count-items) l.initial.out l.out l.p
