use mathlib.Core.Path.{sym, ◌∙◌}
use Rattle.laws.specs.Bools.{differ}
use Rattle.bits.specs.Places.{room_fits, up_before}
use Rattle.bits.proofs.places.in_order.Goals as goal
use Rattle.bits.proofs.places.in_order.Goals.{then-inside, else-inside}

pub up_to-requires : goal.up_to-requires
up_to-requires c = (room_fits c.args.n c.args.e 0 (sym c.inside.ensures ∙ c.if-inside.true)).bit

pub up_to-requires-then-up_to : goal.up_to-requires-then-up_to
up_to-requires-then-up_to c =
    elim c.if-inside.branch [
      | then-inside w ↦ (up_before c.args.m c.args.e (sym w.up_to.ensures ∙ sym w.value-is ∙ c.if-up_to.true)).bit
      | else-inside w ↦ differ _ c.if-up_to.true (w.value-is ∙ w.if-inside.false)
    ]
