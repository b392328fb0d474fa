-- `model_check::tables::all_distinct` meets its contract. Assumes nothing.
use mathlib.Core.Path.{sym, ◌∙◌}
use mathlib.Core.List.{map}
use Rattle.model_check.specs.Keys.{same_key}
use Rattle.model_check.proofs.Whole.{distinct_map}
use Rattle.model_check.proofs.tables.all_distinct.Goals as goal

pub returns-in-Some : goal.returns-in-Some
returns-in-Some g c =
    λ key k xs end h.
    let x = c.index_keys.ensures key k xs end h in
    c.table_distinct.ensures (map key xs) (rw c.in-Some.is at x) ∙ sym (distinct_map same_key key xs)
