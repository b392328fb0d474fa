use mathlib.Core.Path.{◌≡◌, ap, sym, subst⁻¹, ◌∙◌}
use native.Mathlib.Omega.{arith}
use Rattle.std.specs.Prelude.{Option, Some}
use Rattle.definition.specs.Base.{◌or◌}
use Rattle.definition.specs.Date.{Date}
use Rattle.definition.specs.Field.{date_in}
use Rattle.definition.specs.Recurrence.{rule_from}
use Rattle.tree.specs.Place.{meaning}
use Rattle.tree.specs.Answer.{none_child, found_child}
use Rattle.recurrence.specs.Element.{RuleRead, held_rule, judged}
use Rattle.recurrence.proofs.Options.{or_is}
use Rattle.recurrence.proofs.Rules.{none_read, none_from, rule_read, field_in, to_most}
use Rattle.recurrence.proofs.element.rule_of.Goals as goal
use Rattle.recurrence.proofs.element.rule_of.Goals.{After-unwrap_or-to}

from_is : (c : After-unwrap_or-to) → date_in (meaning c.in_ok-p.p) "FromDate" ≡ Some c.in_ok-from.from
unfolding date_in
from_is c = sym c.day_said.ensures ∙ c.in_ok-from.was

to_is : (c : After-unwrap_or-to) → c.unwrap_or-to.result ≡ (date_in (meaning c.in_ok-p.p) "ToDate" or c.in_ok-from.from)
unfolding date_in
to_is c = c.unwrap_or-to.ensures ∙ or_is c.day_said-2.result c.in_ok-from.from ∙ ap (λ (o : Option Date). o or c.in_ok-from.from) c.day_said-2.ensures

pub returns-in_err-p : goal.returns-in_err-p
returns-in_err-p c =
    let x = meaning c.args.e in
    subst⁻¹ (RuleRead x) c.from_residual.ensures (none_read x (none_child x c.child.ensures c.in_err-p.was))

pub returns-in_err-from : goal.returns-in_err-from
unfolding date_in
returns-in_err-from c =
    let x = meaning c.args.e in
    subst⁻¹ (RuleRead x) c.from_residual-in_err-from.ensures
    (none_from x (meaning c.in_ok-p.p) (found_child x c.child.ensures c.in_ok-p.was) (sym c.day_said.ensures ∙ c.in_err-from.was))

pub rule_at-requires : goal.rule_at-requires
rule_at-requires c =
    let p = meaning c.in_ok-p.p in
    let i = field_in p "FromDate" _ (from_is c) in
    record { from = i.high; to = omega (arith, to_is c, to_most p c.in_ok-from.from i.high) }

pub returns : goal.returns
returns c =
    let x = meaning c.args.e in
    let d = c.in_ok-from.from in
    let k = (goal.at.returns c).After-unwrap_or-to in
    subst⁻¹ (RuleRead x) (c.judge.ensures ∙ ap judged (c.rule_at.ensures ∙ ap (λ (n : Date). held_rule (rule_from x d n)) (to_is k)))
    (rule_read x (meaning c.in_ok-p.p) (found_child x c.child.ensures c.in_ok-p.was) d (from_is k))
