-- `model_check::rules::row_below` meets its contract. Assumes nothing.
use mathlib.Core.Path.{ap}
use lib.Dec.{ltb}
use Prim.Native.Nat.{ℕ}
use Rattle.bits.specs.Reads.{read_field}
use Rattle.model.specs.Splits.{stands_is}
use Rattle.model_check.proofs.rules.row_below.Goals as goal

pub returns : goal.returns
returns c =
    let a = c.args in
    λ n h. ap (λ (v : ℕ). ltb v a.count) (stands_is h (read_field a.s.now a.p 32 c.take_u32.ensures))
