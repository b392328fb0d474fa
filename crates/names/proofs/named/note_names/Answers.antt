use native.Mathlib.Omega.{arith}
use Rattle.names.proofs.Wording.{naming_begin, naming_turn}
use Rattle.names.proofs.named.note_names.Goals as goal

pub loop-row-init : goal.loop-row-init
loop-row-init c = (omega arith, naming_begin _ _ _ _ _ _ c.skip_record-q.ensures.0)

pub loop-row-preserved : goal.loop-row-preserved
loop-row-preserved c =
    (omega arith, naming_turn c.loop-row.invariant.1 c.requires c.loop-row-test.true c.note_name-q.ensures)
