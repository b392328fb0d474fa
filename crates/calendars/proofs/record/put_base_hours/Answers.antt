use Rattle.calendar_days.proofs.Times.{begun}
use Rattle.calendars.proofs.WeekHours.{base_hours_at, base_hours_default}
use Rattle.calendars.proofs.record.put_base_hours.Goals as goal

pub returns-in-Some : goal.returns-in-Some
returns-in-Some c = rw c.in-Some.is (base_hours_at c.copy_hours.ensures)

pub returns-in-None : goal.returns-in-None
returns-in-None c = rw c.in-None.is (base_hours_default (begun c.put_count.ensures))
