-- `names::calendars::calendars_before` meets its contract. Assumes nothing.
use mathlib.Core.Path.{◌∙◌, ap}
use native.Mathlib.Omega.{arith}
use Rattle.bits.specs.Places.{up_to}
use Rattle.bits.specs.declared.Place.{Place}
use Rattle.tree.specs.Root.{root_at}
use Rattle.names.proofs.Found.{too_many, few}
use Rattle.names.proofs.calendars.calendars_before.Goals as goal

pub returns-then-n-gt-MOST_ELEMENTS : goal.returns-then-n-gt-MOST_ELEMENTS
returns-then-n-gt-MOST_ELEMENTS c =
    let a = c.args in
    too_many a.out.now a.c (root_at a.root) a.p (omega (arith, c.count_calendars-n.ensures, c.if-n-gt-MOST_ELEMENTS.true))

pub returns : goal.returns
returns c =
    let a = c.args in
    few a.out.now a.c (root_at a.root) a.p _ _ c.count_calendars-n.ensures (omega (arith, c.if-n-gt-MOST_ELEMENTS.false)) (c.up_to.ensures ∙ ap (λ (q : Place). up_to q a.p) c.place_of_row.ensures)
