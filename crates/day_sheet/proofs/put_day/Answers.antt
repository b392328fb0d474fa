use Rattle.bits.specs.Steps.{put-⊗, put_code, put_whole}
use Rattle.day_sheet.proofs.put_day.Goals as goal

pub returns : goal.returns
returns c = rw (← c.from.ensures) (λ l h. put_whole (put-⊗ (put_code 0 6 c.put-a.ensures) (put-⊗ c.put_flag-b.ensures (put-⊗ c.put_flag-c.ensures (c.put_periods-e.ensures l h)))) c.pad.ensures)
