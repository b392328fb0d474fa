use Rattle.std.proofs.Common.{sym, ap, ◌∙◌}
use Rattle.definition.specs.Base.{same}
use Rattle.definition.specs.Text.{Text}
use Rattle.text.proofs.Equal.{same_is}
use Rattle.fields.proofs.child.text_is.Goals as goal

pub returns : goal.returns
returns c =
    let v = c.args.value.now in c.eq.ensures ∙ sym (same_is c.text_of.result.now v) ∙ ap (λ (t : Text). same t v) c.text_of.ensures
