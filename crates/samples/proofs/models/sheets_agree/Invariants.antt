-- Sheet by sheet, each of 10 bytes at least.
use lib.ListN.{length}
use Rattle.samples.proofs.models.sheets_agree.Given as goal

abbrev pub decreases-loop-rest : goal.decreases-loop-rest
decreases-loop-rest l = length l.rest
