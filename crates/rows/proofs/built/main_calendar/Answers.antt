use Rattle.std.proofs.Common.{sym, ap, ◌∙◌}
use Rattle.std.specs.Prelude.{Option, ℕ}
use Rattle.definition.specs.Base.{◌or_else◌, first, numbered}
use Rattle.definition.specs.Tree.{Element}
use Rattle.tree.specs.Root.{root_at}
use Rattle.rows.specs.Rows.{main_in, in_order}
use Rattle.rows.proofs.Walking.{none_if, or_named, or_first_row}
use Rattle.rows.proofs.built.main_calendar.Goals as goal

pub returns-then-is_some-clause-is : goal.returns-then-is_some-clause-is
unfolding main_in
returns-then-is_some-clause-is c =
    let first_one = first (numbered 0 (in_order (root_at c.args.root))) in
    or_named c.named_calendar-named.result (sym c.is_some.ensures ∙ c.if-is_some.true) first_one
    ∙ ap (λ (o : Option (ℕ × Element)). o or_else first_one) c.named_calendar-named.ensures.is

pub returns-clause-is : goal.returns-clause-is
unfolding main_in
returns-clause-is c =
    let first_one = first (numbered 0 (in_order (root_at c.args.root))) in
    c.first_row.ensures.is
    ∙ or_first_row (none_if _ (sym c.is_some.ensures ∙ c.if-is_some.false)) first_one
    ∙ ap (λ (o : Option (ℕ × Element)). o or_else first_one) c.named_calendar-named.ensures.is
