use native.Mathlib.Omega.{arith}
use Rattle.laws.specs.Bits.{bytes_of_lem}
use Rattle.activities.proofs.parents.columns_for.Goals as goal

pub returns-clause-bytes : goal.returns-clause-bytes
returns-clause-bytes c = bytes_of_lem c.args.tree.now (λ i. omega (arith, (c.type_inv.tree i).fits))

pub returns-then-is_err-clause-bytes : goal.returns-then-is_err-clause-bytes
returns-then-is_err-clause-bytes c = bytes_of_lem c.args.tree.now (λ i. omega (arith, (c.type_inv.tree i).fits))
