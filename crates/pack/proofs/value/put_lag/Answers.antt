use Rattle.std.proofs.Common.{rules}
use lib.Dec.{eqb}
use Rattle.bits.specs.Steps.{put-⊗, put_same}
use Rattle.pack.proofs.value.put_lag.Goals as goal

pub returns : goal.returns
returns c =
    put-⊗ (put_same (search rules) c.put_number-a.ensures) (put-⊗ c.put_optional-b.ensures (c.put_coded.ensures 0 2 (eqb 2)))
