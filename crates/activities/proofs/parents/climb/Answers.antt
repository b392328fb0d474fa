use Prim.Native.Nat.{◌-◌, ◌<◌}
use native.Mathlib.Omega.{arith}
use mathlib.Core.Path.{◌≡◌, refl}
use Rattle.activities.specs.Climbing.{climb_end, climb_here, climb_less, climb_next}
use Rattle.activities.proofs.parents.climb.Goals as goal

pub returns-then-level_of-level : goal.returns-then-level_of-level
returns-then-level_of-level c =
    let some_left : 0 < c.loop-r.k = omega (arith, c.in-Some.ensures) in
    let e : c.in-Some.r ≡ c.loop-r.k - 1 = omega (arith, c.in-Some.ensures) in
    climb_here c.loop-r.invariant some_left (rw e at c.level_of.ensures) c.if-level_of-level.true

pub loop-r-smaller : goal.loop-r-smaller
loop-r-smaller c =
    let some_left : 0 < c.loop-r.k = omega (arith, c.in-Some.ensures) in
    let e : c.in-Some.r ≡ c.loop-r.k - 1 = omega (arith, c.in-Some.ensures) in
    rw e (climb_less c.loop-r.invariant some_left (rw e at c.level_of.ensures) c.if-level_of-level.false c.requires refl)

pub loop-r-preserved : goal.loop-r-preserved
loop-r-preserved c =
    let some_left : 0 < c.loop-r.k = omega (arith, c.in-Some.ensures) in
    let e : c.in-Some.r ≡ c.loop-r.k - 1 = omega (arith, c.in-Some.ensures) in
    rw e (climb_next c.loop-r.invariant some_left (rw e at c.level_of.ensures) c.if-level_of-level.false c.requires refl)

pub returns : goal.returns
returns c = climb_end c.loop-r.invariant (omega (arith, c.in_default.ensures))
