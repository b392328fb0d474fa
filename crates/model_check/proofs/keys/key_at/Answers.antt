-- `model_check::keys::key_at` meets its contract. Assumes nothing.
use mathlib.Core.Path.{ap, ◌∙◌}
use Prim.Native.Nat.{ℕ}
use Rattle.definition.specs.Text.{Text}
use Rattle.model_check.proofs.Keyed.{key_row, key_name}
use Rattle.model_check.proofs.keys.key_at.Goals as goal

pub returns : goal.returns
returns g c =
    λ k h.
    ap (λ (n : ℕ). (n, c.text_at.result.now)) (key_row h c.LEAD.ensures c.take-v.ensures)
    ∙ ap (λ (t : Text). (k.0, t)) (c.text_at.ensures k.1 (key_name h c.LEAD.ensures c.take-v.ensures))
