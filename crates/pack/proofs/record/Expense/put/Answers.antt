use Rattle.std.proofs.Common.{rules}
use Rattle.bits.specs.Steps.{put-⊗, put_whole, put_same}
use Rattle.pack.proofs.RecordBits.{put_expense}
use Rattle.pack.proofs.record.Expense.put.Goals as goal

pub returns : goal.returns
returns c =
    put_whole (put_expense _ (put-⊗ c.put_count-a.ensures (put-⊗ c.put_text-b.ensures (put-⊗ (put_same (search rules) c.put_number-c.ensures) (put-⊗ (put_same (search rules) c.put_number-d.ensures) (put-⊗ c.put_optional-e.ensures (c.put_code-f.ensures 0 2))))))) c.pad.ensures
