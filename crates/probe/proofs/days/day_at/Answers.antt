use Rattle.std.proofs.Math.Nat.{min-le_right}
use Prim.Native.Nat.{ℕ}
use native.Mathlib.Omega.{arith}
use mathlib.Core.Path.{ap, ◌∙◌}
use lib.IntN.{pos, ◌-ℤ◌}
use Rattle.definition.specs.Date.{epoch, day_number}
use Rattle.date.specs.Scale.{at_most_lem}
use Rattle.probe.proofs.days.day_at.Goals as goal

pub returns : goal.returns
unfolding day_number
returns c =
    let n = at_most_lem c.at_count.ensures (omega (arith, c.min.ensures, min-le_right c.args.n 7304850)) ∙ ap (λ (k : ℕ). pos k -ℤ pos epoch) c.min.ensures in
    λ i. record { 0 = n i }
