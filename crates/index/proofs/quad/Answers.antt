-- `index::quad` meets its contract. Assumes nothing.
use native.Mathlib.Omega.{arith}
use Rattle.index.specs.Hash.{quad_at}
use Rattle.index.proofs.quad.Goals as goal

pub returns : goal.returns
unfolding quad_at
returns c = omega (arith, c.from_le_bytes.ensures)
