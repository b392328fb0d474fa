use Rattle.definition.specs.Base.{find_last}
use Rattle.tree.specs.Place.{left}
use Rattle.rows.proofs.Lasts.{LastIn}
use Rattle.calendars.specs.Record.{on_place}
use Rattle.calendars.proofs.record.last_day.Given as goal

abbrev pub invariant-loop-d : goal.invariant-loop-d
invariant-loop-d l = LastIn (on_place l.day) (find_last (on_place l.day) (left l.initial.d-iterator)) (left l.d-iterator) l.found
