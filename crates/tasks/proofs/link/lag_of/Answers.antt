use mathlib.Core.Path.{◌≡◌, sym, ap, ◌∙◌}
use mathlib.Core.Bool.{true}
use mathlib.Core.Logic.{◌⊎◌, inl, inr}
use mir.Syntax.{w64}
use mir.Val.{to_z, of_z}
use mir.ValLaws.{to_z-of_z}
use Rattle.definition.specs.Link.{held_by}
use Rattle.tasks.specs.Format.{of_percent, of_elapsed}
use Rattle.tasks.specs.declared.format.Format.{Format}
use Rattle.tasks.specs.declared.format.Format.TheVariants as format
use Rattle.tasks.proofs.Lags.{clamp_held, lag_percent, lag_elapsed, lag_working, divided}
use Rattle.tasks.proofs.link.lag_of.Goals as goal

either : {f : Format} → (f ≡ format.Percent) ⊎ (f ≡ format.ElapsedPercent) → of_percent f ≡ true
either (inl e) = ap of_percent e
either (inr e) = ap of_percent e

pub returns-in-Percent : goal.returns-in-Percent
returns-in-Percent c = λ code f.
    let z = c.args.tenths in
    lag_percent c.args.per_day code z (sym f.percent ∙ either c.in-Percent.is) (record { sfits = c.clamp.type_inv })
    (c.clamp.ensures.value ∙ clamp_held 999999 (to_z w64 (of_z w64 z)) ∙ ap (held_by 1000000) (to_z-of_z w64 z c.ranges.tenths))

pub returns-in-Elapsed : goal.returns-in-Elapsed
returns-in-Elapsed c = λ code f.
    lag_elapsed c.args.per_day code c.args.tenths (sym f.percent ∙ ap of_percent c.in-Elapsed.is) (sym f.elapsed ∙ ap of_elapsed c.in-Elapsed.is) (divided c.args.tenths c.ranges.tenths)

pub returns-in-Working : goal.returns-in-Working
returns-in-Working c = λ code f.
    c.working_lag.ensures
    ∙ lag_working c.args.per_day code c.args.tenths (sym f.percent ∙ ap of_percent c.in-Working.is) (sym f.elapsed ∙ ap of_elapsed c.in-Working.is) (divided c.args.tenths c.ranges.tenths)
