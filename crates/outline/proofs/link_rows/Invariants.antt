-- `outline::link_rows` meets its contract. The invariant: the rows passed are in their lists, for whatever parents the words named. Assumes nothing.
use mathlib.Core.Path.{◌≡◌}
use mathlib.Core.List.{List}
use Rattle.std.specs.Prelude.{Option}
use Prim.Native.Nat.{ℕ, ◌≤◌}
use lib.ListN.{length}
use Rattle.outline.specs.Steps.{Links}
use Rattle.outline.proofs.link_rows.Given as goal

abbrev pub invariant-loop-i : goal.invariant-loop-i
invariant-loop-i l = (l.i ≤ l.n) × (length l.work ≡ length l.initial.work) × ((ps : List (Option ℕ)) → l.n ≡ length ps → Links ps l.n l.initial.work → Links ps l.i l.work)
