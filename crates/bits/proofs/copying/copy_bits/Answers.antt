use mathlib.Core.Path.{sym, ◌∙◌}
use lib.ListN.{length}
use borrow.Author.Tests.{not-false}
use Rattle.bits.specs.Moves.{order}
use Rattle.bits.proofs.copying.copy_bits.Goals as goal

pub copy_all-requires : goal.copy_all-requires
copy_all-requires c =
    let a = c.args in
    order (length a.out.now) a.from a.to a.p (sym c.in_order.ensures ∙ not-false _ c.if-not-in_order.false-raw)
