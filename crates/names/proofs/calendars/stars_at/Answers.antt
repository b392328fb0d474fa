-- `names::calendars::stars_at` meets its contract. Assumes nothing.
use Rattle.tree.specs.Place.{meaning}
use native.Mathlib.Omega.{arith}
use Rattle.names.proofs.Found.{stars_fit}
use Rattle.names.proofs.calendars.stars_at.Goals as goal

pub overflow_cast-result : goal.overflow_cast-result
overflow_cast-result c =
    let a = c.args in
    omega (arith, c.saturating_sub.ensures, stars_fit a.out.now a.p (meaning a.e) c.raw_text-long.ensures c.calendar_text-short.ensures)
