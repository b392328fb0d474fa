-- `outline::walk` meets its contract. The invariant: the words written, then the rows ahead, are the outline; the walk is as deep as rows are written at most. Assumes nothing.
use mathlib.Core.Path.{◌≡◌}
use mathlib.Core.List.{List}
use Rattle.std.specs.Prelude.{Option, Some}
use Prim.Native.Nat.{ℕ, ◌*◌, ◌≤◌, ◌<◌}
use lib.ListN.{length, take}
use Rattle.outline.specs.Steps.{Links}
use Rattle.outline.specs.declared.Visit.{Visit}
use Rattle.outline.proofs.Ahead.{Going}
use Rattle.outline.proofs.walk.Given as goal

abbrev pub invariant-loop-k : goal.invariant-loop-k
invariant-loop-k l =
    (l.k ≤ l.n) × (length l.rows ≡ length l.initial.rows) × ((v : Visit) → l.at ≡ Some v → v.depth ≤ l.k)
    × ((ps : List (Option ℕ)) → l.n ≡ length ps → Links ps 0 l.work → 0 < length ps → Going ps (take (2 * l.k) l.rows) l.at)
