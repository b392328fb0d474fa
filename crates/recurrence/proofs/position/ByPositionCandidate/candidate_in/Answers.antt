use Rattle.recurrence.specs.Kind.{candidate}
use Rattle.recurrence.proofs.position.ByPositionCandidate.candidate_in.Goals as goal

pub returns : goal.returns
unfolding candidate
returns c = c.nth_of.ensures
