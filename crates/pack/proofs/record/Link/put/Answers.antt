use Rattle.bits.specs.Steps.{put-⊗, put_whole}
use Rattle.pack.proofs.RecordBits.{put_link}
use Rattle.pack.proofs.record.Link.put.Goals as goal

pub returns : goal.returns
returns c =
    put_whole (put_link _ (put-⊗ c.put_count-a.ensures (put-⊗ c.put_count-b.ensures (put-⊗ (c.put_code-c.ensures 0 3) c.put_lag-d.ensures)))) c.pad.ensures
