use mathlib.Core.Path.{sym, ◌∙◌}
use native.Mathlib.Omega.{arith}
use Rattle.names.proofs.Chained.{starred_past, starred_scan, starred_few, starred_by_lem}
use Rattle.names.proofs.ids.stars_for.Goals as goal
use Rattle.names.proofs.ids.stars_for.Goals.{in_default-via-in-Some+else-row-t, in_default-via-in_default}

pub returns-then-not-inside : goal.returns-then-not-inside
returns-then-not-inside c = starred_past _ _ _ _ _ _ _ _ (sym c.inside.ensures ∙ c.if-not-inside.true)

pub returns-in-Some : goal.returns-in-Some
returns-in-Some c = starred_by_lem _ _ _ _ _ _ _ _ (sym c.inside.ensures ∙ c.if-not-inside.false) c.free.result c.in-Some.is c.if-row-t.true c.free.ensures

pub returns-in_default : goal.returns-in_default
returns-in_default c =
    elim c.in_default.branch [
      | in_default-via-in-Some+else-row-t w ↦ starred_few _ _ _ _ _ _ _ _ (sym c.inside.ensures ∙ c.if-not-inside.false) c.free_stars.result w.in-Some.is (omega (arith, w.if-row-t.false)) c.free_stars.ensures
      | in_default-via-in_default w ↦ starred_scan _ _ _ _ _ _ _ _ (sym c.inside.ensures ∙ c.if-not-inside.false) c.free_stars.result w.in_default.is c.free_stars.ensures
    ]
