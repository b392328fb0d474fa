use mathlib.Core.Path.{ap, ◌∙◌}
use borrow.Author.Tests.{not-true, not-false}
use Rattle.definition.specs.Text.{is_utf8}
use Rattle.model.proofs.Single.{is_set, is_set-true, is_set-false, text_good, text_bad, text_any}
use Rattle.model.proofs.fields.skip_text.Goals as goal

pub returns-then-not-this : goal.returns-then-not-this
returns-then-not-this g c =
    let a = c.args in
    text_any a.s.now a.p c.take_text-t.ensures (is_set g.row.CHECK) (is_set-false c.if-not-this.true)

pub returns-then-not-is_utf8 : goal.returns-then-not-is_utf8
returns-then-not-is_utf8 g c =
    let a = c.args in
    text_bad a.s.now a.p c.take_text-t.ensures (is_set g.row.CHECK) (is_set-true c.if-not-this.false) (c.is_utf8.ensures ∙ ap is_utf8 c.text_in.ensures) (not-true _ c.if-not-is_utf8.true-raw)

pub returns : goal.returns
returns g c =
    let a = c.args in
    text_good a.s.now a.p c.take_text-t.ensures (is_set g.row.CHECK) (is_set-true c.if-not-this.false) (c.is_utf8.ensures ∙ ap is_utf8 c.text_in.ensures) (not-false _ c.if-not-is_utf8.false-raw)
