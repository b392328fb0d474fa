use Rattle.tree.specs.Place.{meaning}
use Rattle.calendars.proofs.WeekHours.{own_free}
use Rattle.calendars.proofs.record.put_own_hours.Goals as goal

pub returns-else-day_working : goal.returns-else-day_working
returns-else-day_working c = own_free (meaning c.args.e) c.day_working.ensures c.if-day_working.false c.put_count.ensures
