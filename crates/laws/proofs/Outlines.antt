-- An outline has at most as many rows as there are activities. Assumes nothing.
use Rattle.std.specs.Prelude.{length}
use mathlib.Core.List.{List}
use Rattle.std.specs.Prelude.{Option}
use Prim.Native.Nat.{ℕ, ◌≤◌}
use native.Mathlib.Omega.{arith}
use Rattle.definition.specs.Outline.{outline_of}
use Rattle.laws.specs.Outlines.{outline_once, outline_in, length_total, total_most}

-- ---- so many rows

-- there are at most as many rows as activities
pub outline_length : (ps : List (Option ℕ)) → length (outline_of ps) ≤ length ps
outline_length ps =
    omega (arith, length_total (length ps) (outline_of ps) (outline_in ps), total_most (length ps) (outline_of ps) (outline_once ps))
