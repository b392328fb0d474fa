use Rattle.std.proofs.Common.{T, sym, ap, ◌∙◌, subst}
use Rattle.std.proofs.lemmas.Result.{err_from_is_err_and}
use Rattle.definition.specs.Text.{Text}
use Rattle.definition.specs.Number.{Reading}
use Rattle.definition.specs.Duration.{◌then◌, figures_of, duration_from, duration_of}
use Rattle.definition.specs.declared.Figures.{Figures}
use Rattle.number.specs.Duration.{none_below}
use Rattle.number.proofs.Figures.{err_then, figures_least}
use Rattle.number.proofs.duration.duration_of.Goals as goal

pub duration_from-requires : goal.duration_from-requires
duration_from-requires c =
    subst (λ (r : Reading Figures). T (none_below r)) (sym c.figures_of.ensures ∙ c.in_ok-figures_of.was) (figures_least c.trim.result.now)

pub returns-in_err-figures_of : goal.returns-in_err-figures_of
unfolding duration_of
returns-in_err-figures_of c =
    let p = err_from_is_err_and c.from_residual.result c.from_residual.ensures.1 in
    rw (p.1, p.2)
    (err_then _ _
    ∙ ap (λ (r : Reading Figures). r then duration_from) (sym c.in_err-figures_of.was ∙ c.figures_of.ensures)
    ∙ ap (λ (l : Text). figures_of l then duration_from) c.trim.ensures)

pub returns : goal.returns
unfolding duration_of
returns c =
    c.duration_from.ensures
    ∙ ap (λ (r : Reading Figures). r then duration_from) (sym c.in_ok-figures_of.was ∙ c.figures_of.ensures)
    ∙ ap (λ (l : Text). figures_of l then duration_from) c.trim.ensures
