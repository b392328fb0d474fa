use native.Mathlib.Omega.{arith}
use Rattle.definition.specs.Date.{weekday, sunday_first}
use Rattle.recurrence.proofs.position.sunday_first.Goals as goal

pub returns : goal.returns
unfolding sunday_first weekday
returns c = omega arith
