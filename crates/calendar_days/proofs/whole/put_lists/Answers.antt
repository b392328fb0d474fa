use Rattle.calendar_days.proofs.WholeDays.{lists_over}
use Rattle.calendar_days.proofs.whole.put_lists.Goals as goal

pub returns : goal.returns
returns c = lists_over c.args.base c.put_holidays-a.ensures c.put_extra_days-b.ensures c.put_exceptions.ensures
