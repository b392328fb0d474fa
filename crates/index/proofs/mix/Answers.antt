-- `index::mix` meets its contract. The products fit, since 32 bits with 32 bits fit in 64. Assumes nothing.
use mathlib.Core.Path.{refl}
use Rattle.index.specs.Hash.{mixed}
use Rattle.index.proofs.mix.Goals as goal

pub returns : goal.returns
unfolding mixed
returns c = rw (c.from.ensures, c.from-2.ensures) refl
