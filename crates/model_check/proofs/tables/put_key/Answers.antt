-- `model_check::tables::put_key` meets its contract. Assumes nothing.
use mathlib.Core.Path.{ap, ◌∙◌}
use Rattle.model_check.specs.Keys.{hash_key}
use Rattle.model_check.proofs.tables.put_key.Goals as goal

pub returns : goal.returns
returns g c = (c.hash_key.result, (λ k h. c.hash_key.ensures ∙ ap hash_key (c.key_at.ensures k h)), c.put.ensures)
