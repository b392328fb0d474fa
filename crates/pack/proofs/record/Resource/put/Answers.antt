use Rattle.std.proofs.Common.{rules}
use Rattle.bits.specs.Steps.{put-⊗, put_whole, put_same}
use Rattle.pack.proofs.RecordBits.{put_resource}
use Rattle.pack.proofs.record.Resource.put.Goals as goal

pub returns : goal.returns
returns c =
    put_whole (put_resource _ (put-⊗ c.put-a.ensures (put-⊗ c.put_text-b.ensures (put-⊗ (c.put_code-c.ensures 0 2) (put-⊗ c.put_text-d.ensures (put-⊗ (put_same (search rules) c.put_number-e.ensures) (put-⊗ c.put_optional-f.ensures c.put_optional-g.ensures))))))) c.pad.ensures
