use Rattle.std.proofs.Common.{◌≡◌}
use Rattle.definition.specs.Ascii.{bytes}
use Rattle.definition.specs.Tree.{all}
use Rattle.definition.specs.Calendar.{week_by}
use Rattle.tree.specs.Place.{meaning, left}
use Rattle.calendar.specs.Week.{flags_in}
use Rattle.calendar.proofs.week.week_in.Given as goal

abbrev pub invariant-loop-day : goal.invariant-loop-day
invariant-loop-day l = week_by (all (meaning l.e) (bytes "WeekDay")) (flags_in l.base) ≡ week_by (left l.day-iterator) (flags_in l.week)
