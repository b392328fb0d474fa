use mathlib.Core.Path.{refl, ◌∙◌, ap}
use mathlib.Core.Bool.{true}
use Prim.Native.Nat.{◌+◌}
use lib.ListN.{length, length-set}
use Rattle.bits.specs.Reads.{far}
use Rattle.model.specs.Passes.{pass_no, pass_more, pass_cut}
use Rattle.model.specs.Parts.{record_of}
use Rattle.model.specs.declared.records.Kind.TheVariants.{Activities}
use Rattle.outline.proofs.Filling.{turn_none, turn_more, turn_far}
use native.Mathlib.Omega.{arith}
use Rattle.outline.proofs.parents.fill.Goals as goal

pub loop-i-init : goal.loop-i-init
loop-i-init c =
    let a = c.args in
    (omega arith, refl, pass_no (record_of true Activities) a.s.now a.p, λ xs next h e room. turn_none h a.work.now e)

pub returns-then-q-gt7 : goal.returns-then-q-gt7
returns-then-q-gt7 c =
    let t = c.take_parent-parent.ensures in
    let s = c.args.s.now in
    let i = c.loop-i.i in
    let past = far s c.take_parent-parent.result.next c.if-q-gt7.true in
    record {
      long = ap length c.set_field.ensures ∙ length-set c.loop-i.work _ _ ∙ c.loop-i.invariant.1;
      passes = pass_cut (record_of true Activities) (i + 1) c.args.count (omega arith) (pass_more (record_of true Activities) i c.loop-i.invariant.2 t.next) past;
      names = λ xs next h z room. turn_far h (i + 1) (turn_more h i (omega arith) (omega (arith, room, c.loop-i.invariant.1)) (c.loop-i.invariant.3 xs next h z room) t) past;
    }

pub loop-i-preserved : goal.loop-i-preserved
loop-i-preserved c =
    let e = c.set_field.ensures in
    let t = c.take_parent-parent.ensures in
    let i = c.loop-i.i in (
      omega arith,
      ap length e ∙ length-set c.loop-i.work _ _ ∙ c.loop-i.invariant.1,
      pass_more (record_of true Activities) i c.loop-i.invariant.2 t.next,
      λ xs next h z room. rw e (turn_more h i (omega arith) (omega (arith, room, c.loop-i.invariant.1)) (c.loop-i.invariant.3 xs next h z room) t),
    )
