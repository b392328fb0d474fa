use lib.ListN.{take}
use Rattle.definition.specs.Format.{times, count}
use Rattle.bits.specs.Steps.{Puts}
use Rattle.pack.proofs.record.put_counts.Given as goal

abbrev pub invariant-loop-count : goal.invariant-loop-count
invariant-loop-count l = Puts (times 6 count) (take l.count-index l.count-items) l.initial.out l.initial.next l.out l.next
