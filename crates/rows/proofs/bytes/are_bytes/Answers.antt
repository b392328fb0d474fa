use Rattle.std.proofs.Common.{arith}
use Rattle.laws.specs.Bits.{bytes_of_lem}
use Rattle.rows.proofs.bytes.are_bytes.Goals as goal

pub returns-clause-bytes : goal.returns-clause-bytes
returns-clause-bytes c = bytes_of_lem c.args.tree.now (λ i. omega (arith, c.type_inv.tree i))
