use Rattle.std.proofs.Common.{sym, ap, ◌∙◌, eqb-true}
use borrow.Author.Tests.{eqb-false}
use Rattle.std.specs.Prelude.{Option}
use Rattle.definition.specs.Base.{◌>>=◌}
use Rattle.definition.specs.Text.{Text}
use Rattle.tree.specs.Place.{element_at}
use Rattle.tree.specs.Root.{own_text, root_at, calendar_uid}
use Rattle.rows.specs.Rows.{with_uid_in, calendar_meaning}
use Rattle.rows.specs.Turns.{text_given, text_missing, own_given, own_missing}
use Rattle.rows.proofs.built.named_calendar.Goals as goal

pub returns-then-is_empty-clause-is : goal.returns-then-is_empty-clause-is
unfolding calendar_meaning
returns-then-is_empty-clause-is c =
    let root = c.args.root in
    let e = element_at root.tree.now root.calendar in
    let u = rw c.part.ensures at c.own_text-uid.ensures in
    text_missing (own_text e) (with_uid_in (root_at root)) (own_missing e u (eqb-true _ _ (sym c.is_empty.ensures ∙ c.if-is_empty.true)))
    ∙ ap (λ (o : Option Text). o >>= with_uid_in (root_at root)) (sym (calendar_uid root))

pub returns-clause-is : goal.returns-clause-is
returns-clause-is c =
    let root = c.args.root in
    let e = element_at root.tree.now root.calendar in
    let u = rw c.part.ensures at c.own_text-uid.ensures in
    c.calendar_with.ensures.is
    ∙ text_given (own_text e) (with_uid_in (root_at root)) (own_given e u (eqb-false _ _ (sym c.is_empty.ensures ∙ c.if-is_empty.false))) u
    ∙ ap (λ (o : Option Text). o >>= with_uid_in (root_at root)) (sym (calendar_uid root))
