use mathlib.Core.Logic.{inl, inr}
use native.Mathlib.Omega.{arith}
use Rattle.model.proofs.Single.{no_level, no_late, period_given}
use Rattle.definition.specs.Answer.{period_meaning}
use Rattle.model.proofs.parts.take_period.Goals as goal

pub returns-then-to-from : goal.returns-then-to-from
unfolding period_meaning
returns-then-to-from c =
    let a = c.args in
    elim c.then-to-from.either [
      | inl h ↦ no_level a.s.now a.p c.take-from.ensures c.take-to.ensures h
      | inr h ↦ no_late a.s.now a.p c.take-from.ensures c.take-to.ensures h.1
    ]

pub returns : goal.returns
unfolding period_meaning
returns c = let a = c.args in period_given a.s.now a.p c.take-from.ensures c.take-to.ensures (omega arith) (omega arith)
