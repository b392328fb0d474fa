-- A turn of the loop that climbs, how deep it ends, and the cases of a step. Assumes nothing.
use Rattle.std.specs.Prelude.{if◌then◌else◌}
use mathlib.Core.Path.{◌≡◌, refl, sym, ◌∙◌}
use mathlib.Core.Bool.{Bool, true, false}
use mathlib.Core.List.{List}
use Rattle.std.specs.Prelude.{Option, Some, None}
use Prim.Native.Nat.{ℕ, zero, suc, ◌+◌, ◌-◌, ◌*◌, ◌≤◌, ◌<◌}
use native.Mathlib.Omega.{arith}
use borrow.Author.Tests.{lt-ltb, le-ltb}
use lib.Dec.{eqb, ltb}
use lib.ListN.{get_or}
use Rattle.definition.specs.Base.{◌or_else◌}
use Rattle.outline.specs.Words.{no_row}
use Rattle.outline.specs.declared.Visit.{Visit}
use Rattle.outline.specs.Steps.{visit_of, climb_of, step_of}

pub visit_deep : (x d : ℕ) {v : Visit} → visit_of x d ≡ Some v → v.depth ≡ d
visit_deep x d {v} e = go (eqb x no_row) e
  where
    go : (b : Bool) → (if b then None else Some (record { row = x; depth = d })) ≡ Some v → v.depth ≡ d
    go true e = let z : ◌≡◌ {A = ℕ} 0 1 = cc in absurd (omega arith)
    go false e = cc

pub climb_found : (w : List ℕ) (r d : ℕ) {v : Visit} → 0 < d → Some v ≡ visit_of (get_or w (4 * r + 2) 0) d → Some v ≡ climb_of w d r
unfolding climb_of
climb_found w r zero h e = absurd (omega arith)
climb_found w r (suc d) h e = rw (← e) refl

pub climb_up : (w : List ℕ) (r d : ℕ) → 0 < d → visit_of (get_or w (4 * r + 2) 0) d ≡ None → climb_of w (d - 1) (get_or w (4 * r + 0) 0) ≡ climb_of w d r
unfolding climb_of
climb_up w r zero h e = absurd (omega arith)
climb_up w r (suc d) h e = let z : suc d - 1 ≡ d = omega arith in rw (z, e)

pub climb_last : (w : List ℕ) (r d : ℕ) → d ≤ 0 → visit_of (get_or w (4 * r + 2) 0) 0 ≡ climb_of w d r
unfolding climb_of
climb_last w r zero h = refl
climb_last w r (suc d) h = absurd (omega arith)

-- ---- the cases of a step

pub step_child : (n : ℕ) (w : List ℕ) (r d : ℕ) {v : Visit} → Some v ≡ visit_of (get_or w (4 * r + 1) 0) (d + 1) → v.depth < n → Some v ≡ step_of n w r d
unfolding step_of
step_child n w r d e h = rw (lt-ltb (d + 1) n (omega (arith, visit_deep (get_or w (4 * r + 1) 0) (d + 1) (sym e))), ← e) refl

pub step_none : (n : ℕ) (w : List ℕ) (r d : ℕ) → visit_of (get_or w (4 * r + 1) 0) (d + 1) ≡ None → climb_of w d r ≡ step_of n w r d
unfolding step_of
step_none n w r d e = go (ltb (d + 1) n)
  where
    go : (b : Bool) → climb_of w d r ≡ (if b then visit_of (get_or w (4 * r + 1) 0) (d + 1) or_else climb_of w d r else climb_of w d r)
    go true = rw e
    go false = refl

pub step_low : (n : ℕ) (w : List ℕ) (r d : ℕ) {v : Visit} → Some v ≡ visit_of (get_or w (4 * r + 1) 0) (d + 1) → n ≤ v.depth → climb_of w d r ≡ step_of n w r d
unfolding step_of
step_low n w r d e h = rw (le-ltb (d + 1) n (omega (arith, visit_deep (get_or w (4 * r + 1) 0) (d + 1) (sym e))))

-- ---- no deeper than one more

pub climb_deep : (w : List ℕ) (d r : ℕ) {v : Visit} → climb_of w d r ≡ Some v → v.depth ≤ d
unfolding climb_of
climb_deep w zero r e = omega (arith, visit_deep (get_or w (4 * r + 2) 0) 0 e)
climb_deep w (suc d) r {v} e = go (visit_of (get_or w (4 * r + 2) 0) (suc d)) refl e (climb_deep w d (get_or w (4 * r + 0) 0))
  where
    go : (o : Option Visit) → visit_of (get_or w (4 * r + 2) 0) (suc d) ≡ o → (o or_else climb_of w d (get_or w (4 * r + 0) 0)) ≡ Some v
        → (climb_of w d (get_or w (4 * r + 0) 0) ≡ Some v → v.depth ≤ d) → v.depth ≤ suc d
    go None h k above = omega (arith, above k)
    go (Some u) h k above = omega (arith, visit_deep (get_or w (4 * r + 2) 0) (suc d) (h ∙ k))

pub step_deep : (n : ℕ) (w : List ℕ) (r d : ℕ) {v : Visit} → step_of n w r d ≡ Some v → v.depth ≤ d + 1
unfolding step_of
step_deep n w r d {v} e = go (ltb (d + 1) n) (visit_of (get_or w (4 * r + 1) 0) (d + 1)) refl e
  where
    go : (b : Bool) (o : Option Visit) → visit_of (get_or w (4 * r + 1) 0) (d + 1) ≡ o → (if b then o or_else climb_of w d r else climb_of w d r) ≡ Some v → v.depth ≤ d + 1
    go true None h k = omega (arith, climb_deep w d r k)
    go true (Some u) h k = omega (arith, visit_deep (get_or w (4 * r + 1) 0) (d + 1) (h ∙ k))
    go false o h k = omega (arith, climb_deep w d r k)
