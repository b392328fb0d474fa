use borrow.Author.Tests.{not-true, not-false}
use mathlib.Core.Path.{◌≡◌, sym, ◌∙◌}
use Prim.Native.Nat.{◌-◌}
use native.Mathlib.Nat.{sub-zero}
use lib.ListN.{length}
use Rattle.bits.specs.Places.{room_fits}
use Rattle.bits.specs.Reads.{take_cut}
use Rattle.bits.proofs.Taking.{read_none}
use Rattle.bits.proofs.Taking.{read_turn, join_fits, take_done}
use Rattle.bits.proofs.Laws.{part_lt}
use native.Mathlib.Omega.{arith}
use Rattle.bits.proofs.reading.take.Goals as goal

pub returns-then-not-room : goal.returns-then-not-room
returns-then-not-room c =
    let a = c.args in
    sym (take_cut a.s.now a.p a.width (sym c.room.ensures ∙ not-true _ c.if-not-room.true-raw))

pub loop-left-init : goal.loop-left-init
loop-left-init c =
    let a = c.args in
    let f = room_fits (length a.s.now) a.p a.width (sym c.room.ensures ∙ not-false _ c.if-not-room.false-raw) in
    let z : a.width - a.width ≡ 0 = omega arith in
    (omega (arith, f.ends), omega (arith, f.bit), omega arith, omega (arith, f.ends), omega arith, rw z (read_none a.s.now _))

pub joined-value-requires : goal.joined-value-requires
joined-value-requires c =
    let x = part_lt _ _ c.part.ensures in
    (omega arith, x, join_fits _ _ c.loop-left.invariant.5.small x (omega arith))

pub loop-left-preserved : goal.loop-left-preserved
loop-left-preserved c =
    let l = c.loop-left in (
      omega arith,
      omega arith,
      omega arith,
      omega arith,
      omega arith,
      read_turn _ _ l.q.byte l.q.bit l.left l.invariant.5 l.invariant.0 l.invariant.1 l.invariant.2 (omega arith) c.loop-left-test.true c.min-k.ensures
          c.from.ensures c.part.ensures c.joined-value.ensures,
    )

pub returns : goal.returns
returns c =
    let l = c.loop-left in
    let a = c.args in
    let z : l.left ≡ 0 = omega arith in
    take_done a.s.now a.p a.width (sym c.room.ensures ∙ not-false _ c.if-not-room.false-raw) (omega arith) (omega arith) (rw (z, sub-zero) at l.invariant.5)
