use Rattle.calendars.proofs.PlainCalendars.{no_hours, day_hours_lem}
use Rattle.calendars.proofs.plain.put_day_hours.Goals as goal

pub returns-in-Some : goal.returns-in-Some
returns-in-Some c = day_hours_lem c.in-Some.is c.put_count-a.ensures (rw (c.from.ensures, c.from-in-Some.ensures) at c.put_period.ensures)

pub returns-in-None : goal.returns-in-None
returns-in-None c = no_hours c.in-None.is c.put_count.ensures
