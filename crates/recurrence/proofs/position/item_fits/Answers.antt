use Rattle.recurrence.proofs.Items.{item_0, item_1, item_2, item_day}
use Rattle.recurrence.proofs.Months.{sunday_less}
use Prim.Native.Nat.{ℕ, ◌+◌}
use lib.Dec.{eqb}
use Rattle.definition.specs.Base.{within}
use mathlib.Core.Bool.{not}
use mathlib.Core.Path.{ap, sym, ◌∙◌}
use native.Mathlib.Omega.{arith}
use Rattle.recurrence.proofs.position.item_fits.Goals as goal

pub overflow_add-result : goal.overflow_add-result
overflow_add-result c = omega (arith, c.sunday_first-w.ensures, sunday_less c.args.d)

pub returns-in-0 : goal.returns-in-0
returns-in-0 c = sym (item_0 _ _ c.in-0.is)

pub returns-in-1 : goal.returns-in-1
returns-in-1 c = c.is_workday.ensures ∙ ap (within 1 5) c.sunday_first-w.ensures ∙ sym (item_1 _ _ c.in-1.is)

pub returns-in-2 : goal.returns-in-2
returns-in-2 c = ap not (c.is_workday-in-2.ensures ∙ ap (within 1 5) c.sunday_first-w.ensures) ∙ sym (item_2 _ _ c.in-2.is)

pub returns-in_default : goal.returns-in_default
returns-in_default c = ap (λ (w : ℕ). eqb c.args.item (w + 3)) c.sunday_first-w.ensures ∙ sym (item_day _ _ c.in_default.in_default-own.rest.0.0.1 c.in_default.in_default-own.rest.0.1 c.in_default.in_default-own.rest.1)
