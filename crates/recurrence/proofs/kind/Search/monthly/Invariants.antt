use Rattle.recurrence.specs.Kind.{monthly_fits}
use Rattle.recurrence.specs.Scale.{month_at}
use Rattle.recurrence.proofs.Fits.{step_month}
use Rattle.recurrence.proofs.Units.{Passed}
use Rattle.recurrence.proofs.kind.Search.monthly.Given as goal

abbrev pub invariant-loop-q : goal.invariant-loop-q
invariant-loop-q g l = Passed (monthly_fits g.C.Candidate.positioned l.self.r) month_at l.self.at (step_month l.self.r l.q)
