use native.Mathlib.Omega.{arith}
use Rattle.definition.specs.Date.{weekday}
use Rattle.date.proofs.weekday_of.Goals as goal

pub returns : goal.returns
unfolding weekday
returns c = omega arith
