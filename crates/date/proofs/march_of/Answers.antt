use mathlib.Core.Path.{refl}
use Rattle.date.proofs.Steps.{march_found}
use Rattle.date.proofs.march_of.Goals as goal

pub returns : goal.returns
returns c = march_found c.args.d _ _ (rw c.from.ensures) refl
