use native.Mathlib.Omega.{arith}
use Rattle.model_check.proofs.Twins.{all_left, no_twin, a_twin, none_left}
use Rattle.model_check.proofs.tables.table_distinct.Goals as goal

pub loop-i-init : goal.loop-i-init
loop-i-init g c =
    λ ks x. all_left ks x.full

pub returns-then-has_twin : goal.returns-then-has_twin
returns-then-has_twin g c =
    λ ks x.
    let v = c.loop-i.invariant ks x in
    a_twin v (omega arith) (c.has_twin.ensures ks x (omega (arith, v.in_range))) c.if-has_twin.true

pub loop-i-preserved : goal.loop-i-preserved
loop-i-preserved g c =
    λ ks x.
    let v = c.loop-i.invariant ks x in
    no_twin v (omega arith) (c.has_twin.ensures ks x (omega (arith, v.in_range))) c.if-has_twin.false

pub returns : goal.returns
returns g c =
    λ ks x. none_left (c.loop-i.invariant ks x) (omega arith)
