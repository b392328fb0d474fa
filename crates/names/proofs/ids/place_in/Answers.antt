use native.Mathlib.Omega.{arith}
use Rattle.names.proofs.Chained.{place_scan, place_few, place_by_lem}
use Rattle.names.proofs.ids.place_in.Goals as goal
use Rattle.names.proofs.ids.place_in.Goals.{in_default-via-in-Some+else-count-t, in_default-via-in_default}

pub returns-in-Some : goal.returns-in-Some
returns-in-Some c = place_by_lem _ _ _ _ _ _ _ c.in-Some.is c.if-count-t.true c.place.ensures

pub returns-in_default : goal.returns-in_default
returns-in_default c =
    elim c.in_default.branch [
      | in_default-via-in-Some+else-count-t w ↦ place_few _ _ _ _ _ _ _ w.in-Some.is (omega (arith, w.if-count-t.false)) c.place_of_row.ensures
      | in_default-via-in_default w ↦ place_scan _ _ _ _ _ _ _ w.in_default.is c.place_of_row.ensures
    ]
