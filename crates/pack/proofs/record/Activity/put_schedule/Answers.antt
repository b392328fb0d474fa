use Rattle.bits.specs.Steps.{put-⊗}
use Rattle.pack.proofs.record.Activity.put_schedule.Goals as goal

pub returns : goal.returns
returns c =
    put-⊗ c.put_text-a.ensures (put-⊗ c.put_optional-b.ensures (put-⊗ c.put_optional-c.ensures (put-⊗ c.put_optional-d.ensures (put-⊗ c.put_optional-e.ensures (put-⊗ c.put_optional-f.ensures (put-⊗ c.put_optional-g.ensures (put-⊗ (c.put_code-h.ensures 0 3) (put-⊗ c.put_optional-i.ensures c.put_text.ensures))))))))
