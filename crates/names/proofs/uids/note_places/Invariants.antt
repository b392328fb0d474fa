use Rattle.tree.specs.Root.{root_at}
use Rattle.rows.specs.Walks.{calendars_left, CalendarsOf}
use Rattle.names.proofs.Placing.{Placing}
use Rattle.names.proofs.uids.note_places.Given as goal

abbrev pub invariant-loop-e : goal.invariant-loop-e
invariant-loop-e l = Placing l.root.tree.now (root_at l.root) l.t l.left (calendars_left l.e-iterator) l.initial.words l.words × CalendarsOf l.e-iterator l.root.tree.now
