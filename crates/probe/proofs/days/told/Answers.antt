use mathlib.Core.Path.{refl}
use Rattle.probe.specs.Fields.{Told}
use Rattle.probe.proofs.days.told.Goals as goal

pub returns-in-Day : goal.returns-in-Day
unfolding Told
returns-in-Day c = rw c.in-Day.is (refl, c.count_of-in-Day.ensures, c.count_of.ensures, refl)

pub returns-in-Done : goal.returns-in-Done
unfolding Told
returns-in-Done c = rw c.in-Done.is (refl, refl, refl, refl)

pub returns-in-Skipped : goal.returns-in-Skipped
unfolding Told
returns-in-Skipped c = rw c.in-Skipped.is (refl, refl, refl, refl)
