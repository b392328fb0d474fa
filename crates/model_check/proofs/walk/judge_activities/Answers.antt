use mathlib.Core.Path.{◌≡◌, refl, ◌∙◌}
use mathlib.Core.Bool.{true}
use Prim.Native.Nat.{◌+◌}
use native.Mathlib.Omega.{arith}
use Rattle.model.specs.Passes.{pass_no, pass_more, pass_cut}
use Rattle.model.specs.Parts.{record_of}
use Rattle.model.specs.declared.records.Kind.TheVariants.{Activities}
use Rattle.std.specs.Prelude.{Some}
use Rattle.model_check.specs.Walk.{Noted}
use Rattle.model_check.proofs.Keyed.{activity_key}
use Rattle.model_check.proofs.Scan.{goes}
use Rattle.model_check.proofs.Tabled.{never, fill_starts, fill_goes, filled}
use Rattle.model_check.proofs.Walking.{kept_none, kept_then, kept_noted, table_kept, judge_starts, judge_goes, judge_ends, tested, not_far, far}
use Rattle.model_check.proofs.walk.judge_activities.Goals as goal

pub loop-i-init : goal.loop-i-init
loop-i-init c =
    let a = c.args in (
      omega arith,
      refl,
      pass_no (record_of true Activities) a.s.now a.p,
      (λ e. e),
      (λ a. kept_none _),
      (λ a m end h n next r. judge_starts r),
      λ small z t o e em xs next r. fill_starts (rw e r) em,
    )

pub returns-then-q-gt7 : goal.returns-then-q-gt7
returns-then-q-gt7 c =
    let v = c.loop-i.invariant in
    let b = c.args in
    let y = c.judge_activity-a.ensures in
    let i = c.loop-i.i in
    record {
      passes = pass_cut (record_of true Activities) (i + 1) b.count (omega arith) (pass_more (record_of true Activities) i v.2 y.next) (far b.s.now c.judge_activity-a.result.next c.if-q-gt7.true);
      kept = λ a. kept_then (v.4 a) (kept_noted _ _ _ _ a c.note_id.ensures);
      right = λ a m end h n next r. let g = (v.5 a m end h n next r).along in not_far (goes never true g (tested g (omega arith) y.next) refl) c.if-q-gt7.true;
      keys = λ small z t o e em xs next r. let g = (v.6 small z t o e em xs next r).along in not_far (goes never true g (tested g (omega arith) y.next) refl) c.if-q-gt7.true;
    }

pub loop-i-preserved : goal.loop-i-preserved
loop-i-preserved c =
    let v = c.loop-i.invariant in
    let b = c.args in
    let y = c.judge_activity-a.ensures in
    let i = c.loop-i.i in (
      omega arith,
      c.note_id.auto.words ∙ v.1,
      pass_more (record_of true Activities) i v.2 y.next,
      (λ z. y.even),
      (λ a. kept_then (v.4 a) (kept_noted _ _ _ _ a c.note_id.ensures)),
      (λ a m end h n next r.
          let g = v.5 a m end h n next r in
          let u = tested g.along (omega arith) y.next in
          judge_goes g u (y.right m end h (table_kept 0 _ _ b.tables.names (kept_then (v.4 a) (kept_noted _ _ _ _ a c.note_id.ensures)) n) u.item u.stands)),
      λ small z t o n em xs next r.
          let g = v.6 small z t o n em xs next r in
          let e : Noted b.s.now c.loop-i.q i (Some t) c.loop-i.words c.note_id.new.words = rw o at c.note_id.ensures in
          fill_goes g activity_key small (v.3 z) (omega arith) e.1 refl e.2 (tested g.along (omega arith) y.next),
    )

pub returns : goal.returns
returns c =
    let v = c.loop-i.invariant in
    let e : c.loop-i.i ≡ c.args.count = omega arith in
    record {
      passes = rw e at v.2;
      kept = v.4;
      right = λ a m end h n next r. judge_ends (v.5 a m end h n next r) (omega arith);
      keys = λ small z t o g em xs next r. filled (v.6 small z t o g em xs next r) (omega arith);
    }
