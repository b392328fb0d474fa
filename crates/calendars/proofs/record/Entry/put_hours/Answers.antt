use Rattle.std.proofs.Common.{refl, ◌∙◌, ◌<◌, arith}
use Rattle.definition.specs.Calendar.{week_days}
use Rattle.tree.specs.Place.{meaning}
use Rattle.calendars.proofs.WeekHours.{hours_none, hours_more, hours_all}
use Rattle.calendars.proofs.record.Entry.put_hours.Goals as goal

pub loop-day-init : goal.loop-day-init
loop-day-init c = let k = c.args.self in (refl, hours_none (week_days (meaning k.calendar)) k.base c.args.out.now c.args.p)

pub loop-day-preserved : goal.loop-day-preserved
loop-day-preserved c =
    let lt : c.loop-day.day < 7 = omega arith in
    (c.put_hours_of-q.auto.out ∙ c.loop-day.invariant.0, hours_more (week_days (meaning c.args.self.calendar)) lt c.loop-day.invariant.1 c.put_hours_of-q.ensures)

pub returns : goal.returns
returns c = let k = c.args.self in hours_all (week_days (meaning k.calendar)) k.base {day = c.loop-day.day} (omega arith) c.loop-day.invariant.1
