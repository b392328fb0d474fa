-- `outline::push` meets its contract. Assumes nothing.
use Rattle.outline.proofs.Lists.{push_by}
use Rattle.outline.proofs.push.Goals as goal

pub returns : goal.returns
returns c =
    let a = c.args in
    push_by a.work.now a.i a.p a.word c.set_field.ensures c.field-first.ensures c.set_field-2.ensures c.set_field-3.ensures
