use Rattle.std.proofs.Common.{[], sym, ap, ◌∙◌}
use lib.Ieee.{Float}
use Rattle.definition.specs.Number.{Reading}
use Rattle.definition.specs.Duration.{is_t, ◌then◌, time_figures, day_figures}
use Rattle.text.specs.Parts.{all_of}
use Rattle.number.proofs.Parts.{cut_or}
use Rattle.number.proofs.Figures.{err_then, no_figures, not_p, some_figures}
use Rattle.std.proofs.lemmas.Result.{err_from_is_err_and}
use Rattle.std.proofs.Common.{arith, refl, rules}
use Rattle.number.proofs.duration.figures_of.Goals as goal

pub returns-in_default : goal.returns-in_default
returns-in_default c = sym (no_figures c.args.s.now (omega arith))

pub returns-in_default-2 : goal.returns-in_default-2
returns-in_default-2 c = sym (not_p c.args.s.now (λ z. omega arith) (search rules))

pub returns-in_err-days_of : goal.returns-in_err-days_of
returns-in_err-days_of c =
    let q = cut_or is_t _ c.cut_at.result _ _ c.unwrap_or.ensures refl c.cut_at.ensures in
    let time = c.unwrap_or.result.1.now in
    let p = err_from_is_err_and c.from_residual.result c.from_residual.ensures.1 in
    rw (p.1, p.2)
    (err_then _ _
    ∙ ap (λ (r : Reading Float). r then λ x. time_figures time [] (day_figures x)) (sym c.in_err-days_of.was ∙ c.days_of.ensures)
    ∙ some_figures c.args.s.now _ _ time (λ z. omega arith) (search rules) (all_of 1 c.args.s.now) q.0 q.1)

pub returns : goal.returns
returns c =
    let q = cut_or is_t _ c.cut_at.result _ _ c.unwrap_or.ensures refl c.cut_at.ensures in
    let time = c.unwrap_or.result.1.now in
    c.time_figures.ensures
    ∙ ap (time_figures time []) c.day_figures.ensures
    ∙ ap (λ (r : Reading Float). r then λ x. time_figures time [] (day_figures x)) (sym c.in_ok-days_of.was ∙ c.days_of.ensures)
    ∙ some_figures c.args.s.now _ _ time (λ z. omega arith) (search rules) (all_of 1 c.args.s.now) q.0 q.1
