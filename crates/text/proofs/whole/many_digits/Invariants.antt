-- `many_digits` meets its contract. Assumes nothing.
use mathlib.Core.Path.{◌≡◌}
use Prim.Native.Nat.{◌≤◌}
use lib.ListN.{drop}
use Rattle.text.specs.Whole.{digits_to}
use Rattle.text.proofs.whole.many_digits.Given as goal

abbrev pub invariant-loop-b : goal.invariant-loop-b
invariant-loop-b l = (l.n ≤ l.most) × (digits_to l.most 0 l.s ≡ digits_to l.most l.n (drop l.b-index l.s))
