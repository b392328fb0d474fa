-- `model_check::keys::has_key` meets its contract. Assumes nothing.
use mathlib.Core.Path.{sym, ◌∙◌}
use Rattle.text.proofs.Equal.{same_is}
use Rattle.model_check.proofs.Keyed.{other_row, same_row, key_name}
use native.Mathlib.Omega.{arith}
use Rattle.model_check.proofs.keys.has_key.Goals as goal

pub returns-then-v-key : goal.returns-then-v-key
returns-then-v-key g c =
    let a = c.args in
    λ k h. other_row h c.LEAD.ensures c.take-v.ensures a.key.row a.key.name.now c.if-v-key.true

pub returns : goal.returns
returns g c =
    let a = c.args in
    λ k h.
    let e = c.take-v.ensures in
    c.eq.ensures ∙ sym (same_is a.key.name.now c.text_at.result.now) ∙ same_row h c.LEAD.ensures e a.key.row a.key.name.now (omega (arith, c.if-v-key.false)) (c.text_at.ensures k.1 (key_name h c.LEAD.ensures e))
