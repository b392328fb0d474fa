use Rattle.recurrence.specs.Kind.{candidate}
use Rattle.recurrence.proofs.position.ByDayCandidate.candidate_in.Goals as goal

pub returns : goal.returns
unfolding candidate
returns c = c.day_in.ensures
