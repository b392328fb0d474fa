use Rattle.std.proofs.Common.{◌-◌, ◌≤◌, drop}
use Rattle.number.specs.Number.{limit, Reads}
use Rattle.number.proofs.decimal.run.Given as goal

abbrev pub invariant-loop-end : goal.invariant-loop-end
invariant-loop-end l = (l.value ≤ limit) × Reads l.v (drop l.from l.s) (l.end - l.from) l.value (drop l.end l.s)
