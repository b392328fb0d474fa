-- `model_check::answer` meets its contract. Assumes nothing.
use mathlib.Core.Path.{◌≡◌}
use native.Mathlib.Omega.{arith}
use Rattle.std.specs.Prelude.{Some, None, Err}
use Rattle.definition.specs.declared.Refusal.TheVariants.{NoModel}
use Rattle.model_check.proofs.Walking.{no_model, judged}
use Rattle.model_check.proofs.answer.Goals as goal

pub returns-in_err-w : goal.returns-in_err-w
returns-in_err-w c =
    let n : c.sections_of.result ≡ None = grind arith in
    let e : c.from_residual.result ≡ Err NoModel = grind arith in
    rw e (no_model c.take_counts-counts.ensures c.walk_model-walked.ensures c.sections_of.ensures n)

pub returns-then-not-keeps_list : goal.returns-then-not-keeps_list
returns-then-not-keeps_list c =
    let n : c.sections_of.result ≡ Some c.in_ok-w.w = grind arith in
    judged c.take_counts-counts.ensures c.walk_model-walked.ensures c.sections_of.ensures n c.keeps_list.ensures c.if-not-keeps_list.true

pub returns : goal.returns
returns c =
    let n : c.sections_of.result ≡ Some c.in_ok-w.w = grind arith in
    judged c.take_counts-counts.ensures c.walk_model-walked.ensures c.sections_of.ensures n c.keeps_list.ensures c.if-not-keeps_list.false
