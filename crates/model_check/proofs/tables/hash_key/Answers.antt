-- `model_check::tables::hash_key` meets its contract. Assumes nothing.
use native.Mathlib.Omega.{arith}
use Rattle.model_check.specs.Keys.{hash_key}
use Rattle.model_check.proofs.tables.hash_key.Goals as goal

pub returns : goal.returns
unfolding hash_key
returns c = omega (arith, c.hash_of.ensures)
