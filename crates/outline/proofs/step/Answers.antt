-- `outline::step` meets its contract. One case for each of the definition. Assumes nothing.
use mathlib.Core.Path.{◌≡◌, sym, ◌∙◌}
use Rattle.outline.specs.Steps.{climb_of, step_of}
use Rattle.outline.proofs.Turns.{step_none, step_child, step_low}
use Rattle.outline.proofs.step.Goals as goal
use Rattle.outline.proofs.step.Goals.{in_default-via-in-Some+else-child-n, in_default-via-in_default}

pub returns-in-Some : goal.returns-in-Some
returns-in-Some c =
    let a = c.args in
    step_child a.n a.work.now a.at.row a.at.depth (sym c.in-Some.is ∙ c.named.ensures) c.if-child-n.true

pub returns-in_default : goal.returns-in_default
returns-in_default c =
    let a = c.args in
    let e : climb_of a.work.now a.at.depth a.at.row ≡ step_of a.n a.work.now a.at.row a.at.depth =
    elim c.in_default.branch [
      | in_default-via-in-Some+else-child-n w ↦ step_low a.n a.work.now a.at.row a.at.depth (sym w.in-Some.is ∙ c.named.ensures) w.if-child-n.false
      | in_default-via-in_default w ↦ step_none a.n a.work.now a.at.row a.at.depth (sym c.named.ensures ∙ w.in_default.is)
    ] in
    c.climb.ensures ∙ e
