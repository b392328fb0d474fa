use mathlib.Core.Path.{sym, ◌∙◌}
use lib.ListN.{length}
use borrow.Author.Tests.{not-true, not-false}
use Rattle.bits.specs.Places.{room_fits}
use Rattle.model.proofs.Single.{bits_out, bits_short, bits_in}
use native.Mathlib.Omega.{arith}
use Rattle.model.proofs.fields.skip.Goals as goal

pub returns-then-not-inside : goal.returns-then-not-inside
returns-then-not-inside c =
    let a = c.args in
    bits_out a.s.now a.p a.width (sym c.inside.ensures ∙ not-true _ c.if-not-inside.true-raw)

pub overflow_add-end : goal.overflow_add-end
overflow_add-end c =
    let a = c.args in
    omega (arith, (room_fits (length a.s.now) a.p 0 (sym c.inside.ensures ∙ not-false _ c.if-not-inside.false-raw)).bit)

pub overflow_add-q : goal.overflow_add-q
overflow_add-q c =
    let a = c.args in
    let f = room_fits (length a.s.now) a.p 0 (sym c.inside.ensures ∙ not-false _ c.if-not-inside.false-raw) in
    omega (arith, f.bit, f.ends, c.well_formed, c.requires)

pub returns-then-not-inside-2 : goal.returns-then-not-inside-2
returns-then-not-inside-2 c =
    let a = c.args in
    bits_short a.s.now a.p a.width (sym c.inside-2.ensures ∙ not-true _ c.if-not-inside-2.true-raw)

pub returns : goal.returns
returns c =
    let a = c.args in
    bits_in a.s.now a.p a.width (sym c.inside.ensures ∙ not-false _ c.if-not-inside.false-raw) (sym c.inside-2.ensures ∙ not-false _ c.if-not-inside-2.false-raw)
