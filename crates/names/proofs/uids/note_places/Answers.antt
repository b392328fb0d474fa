use Rattle.names.proofs.Placing.{placing_end, placing_turn}
use Rattle.names.proofs.uids.note_places.Goals as goal

pub returns : goal.returns
returns c = placing_end c.requires c.loop-e.invariant.0 c.in-None.ensures.steps.0

pub loop-e-preserved : goal.loop-e-preserved
loop-e-preserved c =
    let at = c.in-Some.ensures.steps.1 _ c.loop-e.invariant.1 in
    (placing_turn c.requires c.loop-e.invariant.0 c.in-Some.e c.in-Some.ensures.steps.0 at.0 c.set_word.ensures, at.1)
