use mathlib.Core.Logic.{inl, inr}
use native.Mathlib.Omega.{arith}
use Rattle.model.proofs.Single.{period_level, period_late, period_found}
use Rattle.model.proofs.fields.take_period_key.Goals as goal

pub returns-then-to-from : goal.returns-then-to-from
returns-then-to-from c =
    let a = c.args in
    elim c.then-to-from.either [
      | inl h ↦ period_level a.s.now a.p c.take-from.ensures c.take-to.ensures h
      | inr h ↦ period_late a.s.now a.p c.take-from.ensures c.take-to.ensures h.1
    ]

pub returns : goal.returns
returns c =
    let a = c.args in
    period_found a.s.now a.p c.take-from.ensures c.take-to.ensures (omega arith) (omega arith)
