-- `model_check::tables::table_has_key` meets its contract. Assumes nothing.
use mathlib.Core.Path.{◌∙◌}
use Rattle.model_check.proofs.Tabled.{first_in, some_key}
use Rattle.model_check.proofs.tables.table_has_key.Goals as goal

pub returns : goal.returns
returns g c =
    λ ks x. c.chain_has_key.ensures ks x (first_in x _ c.first-from.ensures) ∙ some_key x _ c.first-from.ensures c.hash_key.ensures
