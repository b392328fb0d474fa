use Rattle.std.proofs.Common.{◌≡◌, length}
use Rattle.definition.specs.Calendar.{week_days}
use Rattle.tree.specs.Place.{meaning}
use Rattle.calendars.proofs.WeekHours.{PutsDays}
use Rattle.calendars.proofs.record.Entry.put_hours.Given as goal

abbrev pub invariant-loop-day : goal.invariant-loop-day
invariant-loop-day l = (length l.out ≡ length l.initial.out) × PutsDays (week_days (meaning l.self.calendar)) l.day l.self.base l.initial.out l.initial.q l.out l.q
