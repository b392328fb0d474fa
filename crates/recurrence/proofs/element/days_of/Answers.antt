use Prim.Native.Nat.{ℕ, ◌+◌, min}
use mathlib.Core.Path.{◌≡◌, ap, sym, subst⁻¹, ◌∙◌}
use native.Mathlib.Omega.{arith}
use Rattle.std.specs.Prelude.{Some}
use Rattle.definition.specs.Field.{date_in}
use Rattle.tree.specs.Place.{meaning}
use Rattle.tree.specs.Answer.{none_child, found_child}
use Rattle.recurrence.specs.Element.{RangeRead}
use Rattle.recurrence.proofs.Counts.{dated}
use Rattle.recurrence.proofs.Rules.{field_in}
use Rattle.recurrence.proofs.Ranges.{none_read, none_from, none_to, range_read}
use Rattle.recurrence.proofs.element.days_of.Goals as goal
use Rattle.recurrence.proofs.element.days_of.Goals.{In_ok-first}

from_is : (c : In_ok-first) → date_in (meaning c.in_ok-p.p) "FromDate" ≡ Some c.in_ok-first.first
unfolding date_in
from_is c = sym c.day_said.ensures ∙ c.in_ok-first.was

pub returns-in_err-p : goal.returns-in_err-p
returns-in_err-p c =
    let x = meaning c.args.e in
    subst⁻¹ (RangeRead x) c.from_residual.ensures (none_read x (none_child x c.child.ensures c.in_err-p.was))

pub returns-in_err-first : goal.returns-in_err-first
unfolding date_in
returns-in_err-first c =
    let x = meaning c.args.e in
    subst⁻¹ (RangeRead x) c.from_residual-in_err-first.ensures
    (none_from x (meaning c.in_ok-p.p) (found_child x c.child.ensures c.in_ok-p.was) (sym c.day_said.ensures ∙ c.in_err-first.was))

pub returns-in_err-last : goal.returns-in_err-last
unfolding date_in
returns-in_err-last c =
    let x = meaning c.args.e in
    subst⁻¹ (RangeRead x) c.from_residual-in_err-last.ensures
    (none_to x (meaning c.in_ok-p.p) (found_child x c.child.ensures c.in_ok-p.was) _ (from_is (goal.at.returns-in_err-last c).In_ok-first) (sym c.day_said-2.ensures ∙ c.in_err-last.was))

pub returns : goal.returns
unfolding date_in
returns c =
    let x = meaning c.args.e in
    let n = c.min.ensures ∙ ap (λ (n : ℕ). min n 3660) c.saturating_sub.ensures in
    let h = field_in (meaning c.in_ok-p.p) "FromDate" _ (from_is (goal.at.returns c).In_ok-first) in
    subst⁻¹ (RangeRead x) (λ i. Some (record { first = dated c.at_count.ensures (omega (arith, h.high)) i; count = n i + 1 }))
    (range_read x (meaning c.in_ok-p.p) (found_child x c.child.ensures c.in_ok-p.was) _ (from_is (goal.at.returns c).In_ok-first) _ (sym c.day_said-2.ensures ∙ c.in_ok-last.was))
