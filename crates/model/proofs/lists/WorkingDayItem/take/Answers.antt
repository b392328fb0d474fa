use Rattle.model.proofs.Several.{day_hours_lem}
use Rattle.model.proofs.lists.WorkingDayItem.take.Goals as goal

pub returns : goal.returns
returns c = day_hours_lem c.take_date_key-d.ensures c.skip_periods-next.ensures
