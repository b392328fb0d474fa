use Prim.Native.Nat.{◌≤◌}
use mathlib.Core.Path.{◌≡◌}
use lib.ListN.{length}
use Rattle.day_sheet.proofs.Writes.{Copied}
use Rattle.day_sheet.proofs.copy_periods.Given as goal

abbrev pub invariant-loop : goal.invariant-loop
invariant-loop l = (l.counter ≤ l.count) × (length l.out ≡ length l.initial.out) × Copied l.s l.initial.q l.count l.initial.out l.initial.at l.q l.counter l.out l.at
