use Rattle.std.proofs.Common.{sym, ap, ◌∙◌}
use Rattle.definition.specs.Answer.{answer_number}
use Rattle.read.proofs.Whole.{leaves_refused}
use Rattle.read.proofs.answer.Goals as goal

pub returns-in-Err : goal.returns-in-Err
returns-in-Err c =
    let a = c.args in
    leaves_refused a.tree.now a.model.now c.in-Err.refusal (sym (ap answer_number c.in-Err.is) ∙ c.judge.ensures) (c.fill.ensures.after (λ y e. e))
