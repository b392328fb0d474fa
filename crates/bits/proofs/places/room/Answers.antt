use mathlib.Core.Path.{sym, ◌∙◌}
use borrow.Author.Tests.{lt-leb, le-ltb}
use Rattle.bits.specs.Places.{room_short}
use Rattle.bits.proofs.Laws.{room_bytes}
use native.Mathlib.Omega.{arith}
use Rattle.bits.proofs.places.room.Goals as goal
use Rattle.bits.proofs.places.room.Goals.{then-p-lt8, else-p-lt8}

pub returns-then-p-n : goal.returns-then-p-n
returns-then-p-n c =
    let a = c.args in
    room_bytes a.n a.p a.width c.div_ceil.ensures (omega arith) (omega arith)

pub returns-else-p-n : goal.returns-else-p-n
returns-else-p-n c =
    let a = c.args in
    let none = room_short a.n a.p a.width (λ k. omega arith) in
    elim c.if-p-lt8.branch [ then-p-lt8 w ↦ w.t-5-is ∙ lt-leb _ _ (omega arith) ∙ sym none | else-p-lt8 w ↦ w.t-5-is ∙ le-ltb _ _ (omega arith) ∙ sym none ]
