use mathlib.Core.Path.{sym, ◌∙◌}
use native.Mathlib.Omega.{arith}
use lib.ListN.{length}
use borrow.Author.Tests.{not-false}
use Rattle.bits.specs.Moves.{order}
use Rattle.bits.proofs.Rotating.{rotates_bytes}
use Rattle.bits.proofs.rotation.rotate.Goals as goal

pub rotate_bytes-requires : goal.rotate_bytes-requires
rotate_bytes-requires c =
    let a = c.args in
    let o = order (length a.out.now) a.a a.m a.e (sym c.in_order.ensures ∙ not-false _ c.if-not-in_order.false-raw) in
    (omega (arith, o.from), omega (arith, o.to), omega (arith, o.ends))

pub returns-then-e-eq0 : goal.returns-then-e-eq0
returns-then-e-eq0 c =
    rotates_bytes (sym c.in_order.ensures ∙ not-false _ c.if-not-in_order.false-raw) (omega arith) c.rotate_bytes.ensures.0 c.rotate_bytes.ensures.1

pub rotate_bits-requires : goal.rotate_bits-requires
rotate_bits-requires c =
    let a = c.args in
    order (length a.out.now) a.a a.m a.e (sym c.in_order.ensures ∙ not-false _ c.if-not-in_order.false-raw)
