use Prim.Native.Nat.{◌≤◌}
use Rattle.model.specs.Passes.{Called}
use Rattle.model.proofs.fields.skip_times.Given as goal

abbrev pub invariant-loop : goal.invariant-loop
invariant-loop g l = (l.counter ≤ l.count) × Called (λ q r. goal.F-post g l.skip q r) l.initial.q l.counter l.q
