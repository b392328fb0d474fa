use mathlib.Core.Path.{◌≡◌, sym, ◌∙◌}
use Prim.Native.Nat.{◌+◌, ◌-◌}
use native.Mathlib.Omega.{arith}
use Rattle.outline.proofs.Turns.{climb_found, climb_up, climb_last}
use Rattle.outline.proofs.climb.Goals as goal

pub returns-in-Some : goal.returns-in-Some
returns-in-Some c =
    let e : c.loop-d.d - 1 + 1 ≡ c.loop-d.d = omega arith in
    climb_found c.args.work.now c.loop-d.r c.loop-d.d (omega arith) (sym c.in-Some.is ∙ rw e at c.named.ensures) ∙ c.loop-d.invariant.1

pub loop-d-preserved : goal.loop-d-preserved
loop-d-preserved c =
    let e : c.loop-d.d - 1 + 1 ≡ c.loop-d.d = omega arith in
    (omega arith, rw c.field-r.ensures (climb_up c.args.work.now c.loop-d.r c.loop-d.d (omega arith) (sym (rw e at c.named.ensures) ∙ c.in_default.is)) ∙ c.loop-d.invariant.1)

pub returns : goal.returns
returns c = c.named-2.ensures ∙ climb_last c.args.work.now c.loop-d.r c.loop-d.d (omega arith) ∙ c.loop-d.invariant.1
