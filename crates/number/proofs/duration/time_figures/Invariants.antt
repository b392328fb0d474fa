use Rattle.std.proofs.Common.{◌≡◌, ◌≤◌, [], length}
use Rattle.definition.specs.Duration.{time_figures}
use Rattle.number.proofs.duration.time_figures.Given as goal

abbrev pub invariant-loop-u : goal.invariant-loop-u
invariant-loop-u l = (length l.rest ≤ length l.fn.s) × (time_figures l.rest [] l.f ≡ time_figures l.fn.s [] l.fn.start)

abbrev pub decreases-loop-u : goal.decreases-loop-u
decreases-loop-u l = length l.rest
