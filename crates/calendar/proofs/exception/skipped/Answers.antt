use Rattle.std.proofs.Common.{ℕ, ◌%◌, ◌^◌, List, sym, ap, ◌∙◌, rules, tests, lit<}
use Rattle.std.proofs.lemmas.Iterator.Consumers.{fold_from_yields_List}
use Rattle.definition.specs.Ascii.{bytes}
use Rattle.definition.specs.Tree.{Element}
use Rattle.tree.specs.Root.{root_at, in_calendars}
use Rattle.tree.specs.Lists.{children_list}
use Rattle.calendar.specs.Skipped.{in_all}
use Rattle.calendar.proofs.Counts.{counted_on, first_sum, folded, skipped_is}
use Rattle.calendar.proofs.exception.skipped.Goals as goal

pub returns : goal.returns
returns c =
    let root = c.args.root in
    fold_from_yields_List _ counted_on 0 _ c.fold.ensures.ran (children_list c.children.result) (λ a x b q h. search (rules, tests))
    ∙ folded 0 _ (lit< tt)
    ∙ sym (first_sum (2 ^ 32) (λ l. in_all l) _)
    ∙ ap (λ (l : List Element). in_all l % 2 ^ 32) (c.children.ensures ∙ rw c.part.ensures (sym (in_calendars root (bytes "Calendar"))))
    ∙ sym (ap (λ (n : ℕ). n % 2 ^ 32) (skipped_is (root_at root)))
