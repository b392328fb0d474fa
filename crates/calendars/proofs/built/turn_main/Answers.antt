use Rattle.rows.specs.Rows.{calendar_meaning}
use Rattle.calendars.specs.Built.{TurnsBy}
use Rattle.calendars.proofs.built.turn_main.Goals as goal

pub returns-in-Some : goal.returns-in-Some
unfolding TurnsBy calendar_meaning
returns-in-Some c = rw (← c.in-Some.ensures.is) c.turn.ensures

pub returns-in_default : goal.returns-in_default
unfolding TurnsBy calendar_meaning
returns-in_default c = rw (← c.main_calendar.ensures.is, c.in_default.is)
