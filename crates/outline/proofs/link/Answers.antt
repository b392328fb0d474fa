-- `outline::link` meets its contract. One return for each kind of parent. Assumes nothing.
use mathlib.Core.Logic.{⊎_elim}
use mathlib.Core.Path.{◌≡◌}
use Rattle.std.specs.Prelude.{Some, None}
use Rattle.definition.specs.Outline.{parent_in}
use Rattle.outline.proofs.ParentLaws.{parent_far, parent_self, parent_is}
use Rattle.outline.proofs.Lists.{link_by_lem}
use Rattle.outline.proofs.link.Goals as goal

pub returns-then-p-i : goal.returns-then-p-i
returns-then-p-i c =
    let a = c.args in
    let p = c.field-p.result in
    let e : parent_in a.n a.i (Some p) ≡ None = ⊎_elim (parent_far a.n a.i p) (λ h. parent_self a.n a.i p h.0 h.1) c.if-p-i.either in
    link_by_lem a.n a.i a.work.now None c.field-p.ensures e c.push.ensures

pub returns-else-p-i : goal.returns-else-p-i
returns-else-p-i c =
    let a = c.args in
    let p = c.field-p.result in
    link_by_lem a.n a.i a.work.now (Some p) c.field-p.ensures (parent_is a.n a.i p c.if-p-i.false.0 c.if-p-i.false.1) c.push-else-p-i.ensures
