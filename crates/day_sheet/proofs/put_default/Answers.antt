use Rattle.day_sheet.proofs.Writes.{default_put}
use Rattle.day_sheet.proofs.put_default.Goals as goal

pub returns : goal.returns
returns c = default_put c.put-a.ensures c.put_period-b.ensures c.put_period.ensures
