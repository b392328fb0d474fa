use Rattle.std.proofs.Common.{sym, ap, ◌∙◌}
use Rattle.definition.specs.Calendar.{week_days}
use Rattle.tree.specs.Place.{meaning}
use Rattle.rows.specs.Rows.{found_meaning}
use Rattle.calendars.proofs.WeekHours.{hours_of_base, hours_of_day}
use Rattle.calendars.proofs.record.Entry.put_hours_of.Goals as goal

pub returns-in-None : goal.returns-in-None
unfolding found_meaning
returns-in-None c = let k = c.args.self in hours_of_base (week_days (meaning k.calendar)) (sym c.last_day.ensures ∙ ap found_meaning c.in-None.is) c.put_base_hours.ensures

pub returns-in-Some : goal.returns-in-Some
unfolding found_meaning
returns-in-Some c = let k = c.args.self in hours_of_day (week_days (meaning k.calendar)) k.base (sym c.last_day.ensures ∙ ap found_meaning c.in-Some.is) c.put_own_hours.ensures
