-- The outline. Document 01: rows of (activity, level from 1). An activity with no parent, or whose parent is out of range or itself, is top level.
-- The top-level ones come in model order at level 1. Each row is followed at once by the rows of its children (the other activities that
-- name it as parent), in model order and one level deeper, each child with all below it before the next. A circle of parents vanishes with
-- all below it. Assumes nothing.
use Rattle.std.specs.Prelude.{ℕ, zero, suc, Bool, true, false, ◌&&◌, not, length, get_or, ltb, eqb}
use mathlib.Core.List.{List, [], ◌∷◌, map, flat_map}
use Rattle.std.specs.Prelude.{Option, Some, None}
use Rattle.definition.specs.Base.{keep, count}
use Rattle.definition.specs.Model.{Activity, Model}

-- the parent that counts: another row in range
abbrev pub parent_in : ℕ → ℕ → Option ℕ → Option ℕ
parent_in n row None = None
parent_in n row (Some p) = elim (ltb p n && not (eqb p row)) [ true ↦ Some p | false ↦ None ]

abbrev pub is_top : Option ℕ → Bool
is_top None = true
is_top (Some p) = false

abbrev pub is_under : ℕ → Option ℕ → Bool
is_under row None = false
is_under row (Some p) = eqb p row

-- parents: the parent that each activity names
unfoldable pub parent_at : List (Option ℕ) → ℕ → Option ℕ
parent_at parents row = parent_in (length parents) row (get_or parents row None)

unfoldable pub top_rows : List (Option ℕ) → List ℕ
top_rows parents = keep (λ row. is_top (parent_at parents row)) (count 0 (length parents))

unfoldable pub child_rows : List (Option ℕ) → ℕ → List ℕ
child_rows parents row = keep (λ c. is_under row (parent_at parents c)) (count 0 (length parents))

-- a row with all below it, at most so many levels deep
unfoldable pub under : ℕ → List (Option ℕ) → ℕ → ℕ → List (ℕ × ℕ)
under zero parents level row = []
under (suc k) parents level row = (row, level) ∷ flat_map (under k parents (suc level)) (child_rows parents row)

-- no chain of parents that begins at the top is longer than the activities are many
unfoldable pub outline_of : List (Option ℕ) → List (ℕ × ℕ)
outline_of parents = flat_map (under (length parents) parents 1) (top_rows parents)

unfoldable pub outline : Model → List (ℕ × ℕ)
outline m = outline_of (map (λ (a : Activity). a.parent) m.activities)
