use mathlib.Core.Path.{◌≡◌, refl, sym, ◌∙◌}
use Prim.Native.Nat.{◌+◌, ◌*◌}
use lib.ListN.{take}
use lib.Seq.{length-take-le}
use Rattle.outline.proofs.Ahead.{going_start, going_on, going_none, going_full, length_put}
use Rattle.outline.proofs.Turns.{visit_deep, step_deep}
use native.Mathlib.Omega.{arith}
use Rattle.outline.proofs.walk.Goals as goal

pub loop-k-init : goal.loop-k-init
loop-k-init c =
    let a = c.args in (
      omega arith,
      refl,
      λ v e. omega (arith, visit_deep _ 0 (sym c.named-at.ensures ∙ e)),
      λ ps e l h. going_start ps a.work.now a.rows.now (omega arith) h l c.named-at.ensures,
    )

pub returns-in_default : goal.returns-in_default
returns-in_default c =
    let l = c.loop-k in
    record { few = omega arith; long = l.invariant.1; words = λ ps e m. going_none ps (take (2 * l.k) l.rows) (l.invariant.3 ps e m (omega arith)) c.in_default.is }

pub loop-k-preserved : goal.loop-k-preserved
loop-k-preserved c =
    let l = c.loop-k in
    let a = c.args in
    let v = c.in-Some.v in (
      omega arith,
      length_put l.rows (2 * l.k) (2 * l.k + 1) v.row (v.depth + 1) c.put_row.ensures ∙ l.invariant.1,
      λ u e. omega (arith, step_deep a.n a.work.now v.row v.depth (sym c.step-at.ensures ∙ e), l.invariant.2 v c.in-Some.is),
      λ ps e m h. going_on ps a.n a.work.now l.rows l.k v e (omega arith) m (l.invariant.3 ps e m h) c.in-Some.is (omega (arith, l.invariant.2 v c.in-Some.is)) (omega (arith, l.invariant.1)) c.put_row.ensures c.step-at.ensures,
    )

pub returns : goal.returns
returns c =
    let l = c.loop-k in
    let e : l.k ≡ c.args.n = omega arith in
    record {
      few = omega arith;
      long = l.invariant.1;
      words = λ ps f m. rw (← e) (going_full ps (take (2 * l.k) l.rows) (l.invariant.3 ps f m) (length-take-le (2 * l.k) l.rows (omega (arith, l.invariant.1)) ∙ rw (e, f) refl));
    }
