use mathlib.Core.Bool.{Bool}
use mathlib.Core.Path.{◌≡◌, ap, sym, ◌∙◌}
use Prim.Native.Nat.{ℕ}
use native.Mathlib.Omega.{arith}
use Rattle.definition.specs.Field.{int_in, yes_in}
use Rattle.definition.specs.Recurrence.{most_days}
use Rattle.tree.specs.Place.{meaning}
use Rattle.recurrence.specs.Element.{pick_of, mask_of, last_by, most_by}
use Rattle.recurrence.proofs.Counts.{dated}
use Rattle.recurrence.proofs.Rules.{made, last_most}
use Rattle.recurrence.proofs.element.rule_at.Goals as goal
use Rattle.recurrence.proofs.element.rule_at.Goals.{then-yes_in, else-yes_in}

pub returns : goal.returns
unfolding int_in yes_in last_by most_by
returns c =
    let x = meaning c.args.e in
    let from = c.args.from in
    let to = c.args.to in
    let b = c.yes_in.result in
    let o = pick_of most_days 0 1 (int_in x "Occurrences") in
    let last = c.if-yes_in.last in
    let is : (last.0 ≡ last_by b from to) × (last.1 ≡ most_by b o) = elim c.if-yes_in.branch [
      | then-yes_in w ↦ (ap (λ (p : ℕ × ℕ). p.0) w.last-is ∙ w.century_on.ensures ∙ ap (λ (t : Bool). last_by t from to) (sym w.if-yes_in.true), ap (λ (p : ℕ × ℕ). p.1) w.last-is ∙ w.number_in.ensures ∙ ap (λ (t : Bool). most_by t o) (sym w.if-yes_in.true))
      | else-yes_in w ↦ (ap (λ (p : ℕ × ℕ). p.0) w.last-is ∙ ap (λ (t : Bool). last_by t from to) (sym w.if-yes_in.false), ap (λ (p : ℕ × ℕ). p.1) w.last-is ∙ ap (λ (t : Bool). most_by t o) (sym w.if-yes_in.false))
    ] in
    let l = last_most x from to c.requires.to b in
    made x from to c.yes_in.ensures (dated c.at_count.ensures (omega (arith, c.requires.from))) c.number_in-2.ensures is.0 (dated c.at_count-2.ensures (omega (arith, is.0, l))) is.1 c.number_in-3.ensures c.max.ensures c.number_in-4.ensures c.month_from.ensures c.number_in-5.ensures c.number_in-6.ensures c.number_in-7.ensures (c.mask_of.ensures ∙ ap mask_of c.int_in.ensures)
