use mathlib.Core.Path.{◌≡◌, refl, sym, ◌∙◌}
use Prim.Native.Nat.{◌-◌}
use native.Mathlib.Nat.{sub-zero, div-one}
use lib.ListN.{length, length-set}
use borrow.Author.Tests.{not-true, not-false}
use Rattle.bits.specs.Places.{room_fits}
use Rattle.bits.proofs.Overwriting.{over_none}
use Rattle.bits.proofs.Overwriting.{overwrite_more, overwrite_short, overwrite_done, enc_zero}
use native.Mathlib.Omega.{arith}
use Rattle.bits.proofs.writing.overwrite.Goals as goal

pub returns-then-not-room : goal.returns-then-not-room
returns-then-not-room c =
    let a = c.args in
    overwrite_short a.out.now a.p a.width a.v (sym c.room.ensures ∙ not-true _ c.if-not-room.true-raw)

pub loop-left-init : goal.loop-left-init
loop-left-init c =
    let a = c.args in
    let f = room_fits (length a.out.now) a.p a.width (sym c.room.ensures ∙ not-false _ c.if-not-room.false-raw) in
    let z : a.width - a.width ≡ 0 = omega arith in
    (omega (arith, f.ends), omega (arith, f.bit), omega arith, omega (arith, f.ends), omega arith, refl, rw (z, enc_zero) (sym (over_none _ _)))

pub loop-left-preserved : goal.loop-left-preserved
loop-left-preserved c =
    let l = c.loop-left in
    let a = c.args in (
      omega arith,
      omega arith,
      omega arith,
      omega arith,
      omega arith,
      simp length-set l.invariant.5,
      overwrite_more a.out.now l.out _ _ l.q.byte l.q.bit l.left a.v l.invariant.5 l.invariant.6 l.invariant.2 l.invariant.0 l.invariant.1 l.invariant.3 c.loop-left-test.true
          c.min-k.ensures c.part.ensures c.from.ensures c.mix-b.ensures,
    )

pub returns : goal.returns
returns c =
    let l = c.loop-left in
    let a = c.args in
    let z : l.left ≡ 0 = omega arith in
    overwrite_done a.out.now l.out a.p a.width a.v l.invariant.5 (sym c.room.ensures ∙ not-false _ c.if-not-room.false-raw) (omega arith) (omega arith)
    (rw (z, sub-zero, div-one) at l.invariant.6)
