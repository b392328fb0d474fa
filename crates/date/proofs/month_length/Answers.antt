use Rattle.date.proofs.Steps.{thirty, thirty_one}
use borrow.Author.Tests.{eq-eqb}
use mathlib.Core.Path.{sym, ◌∙◌}
use Rattle.definition.specs.Date.{month_length}
use Rattle.date.proofs.month_length.Goals as goal

pub returns-then-is_leap : goal.returns-then-is_leap
unfolding month_length
returns-then-is_leap c = simp (eq-eqb _ _ c.in-2.is, sym c.is_leap.ensures ∙ c.if-is_leap.true)

pub returns-else-is_leap : goal.returns-else-is_leap
unfolding month_length
returns-else-is_leap c = simp (eq-eqb _ _ c.in-2.is, sym c.is_leap.ensures ∙ c.if-is_leap.false)

pub returns-in-4 : goal.returns-in-4
unfolding month_length
returns-in-4 c = thirty c.args.y c.args.m c.in-4.is

pub returns-in_default : goal.returns-in_default
unfolding month_length
returns-in_default c = thirty_one c.args.y c.args.m c.in_default.in_default-own.rest.0.1 c.in_default.in_default-own.rest.1
