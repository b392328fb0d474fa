-- `ten` meets its contract: at each turn the product is the power of the turns so far. Assumes nothing.
use Rattle.std.specs.Prelude.{◌^◌, false}
use Rattle.std.specs.Float.Ieee.Exact.{HasValue}
use Rattle.number.proofs.decimal.ten.Given as goal

abbrev pub invariant-loop : goal.invariant-loop
invariant-loop l = HasValue l.power false (10 ^ l.counter) 1
