use Rattle.day_sheet.proofs.Writes.{list_counts}
use Rattle.day_sheet.proofs.put_periods.Goals as goal

pub returns : goal.returns
returns c =
    let a = c.args in
    λ l h. list_counts a.s.now a.q c.take_u32-n.ensures c.if-n-eq0.false h (rw c.from.ensures at c.put-a.ensures) c.copy_periods.ensures
