use mathlib.Core.Path.{◌≡◌, refl, ap, ◌∙◌}
use Rattle.std.specs.Prelude.{Option, Some, None}
use Rattle.std.specs.Option.{unwrap_or}
use lib.IntN.{ℤ, pos}
use mir.Syntax.{w64}
use mir.Val.{to_z, of_z}
use mir.ValLaws.{to_z-of_z}
use Rattle.definition.specs.Base.{◌or◌}
use Rattle.definition.specs.Field.{int_in}
use Rattle.definition.specs.Link.{lag_of, held_by}
use Rattle.tasks.proofs.Lags.{clamp_held}
use Rattle.tasks.proofs.link.link_lag.Goals as goal

or_is : (o : Option ℤ) (z : ℤ) → unwrap_or o z ≡ (o or z)
or_is None z = refl
or_is (Some y) z = refl

pub returns : goal.returns
unfolding int_in
returns c =
    let said = to_z-of_z w64 c.unwrap_or.result (record { sfits = c.unwrap_or.type_inv }) ∙ c.unwrap_or.ensures ∙ or_is c.int_in.result (pos 0) ∙ ap (λ (o : Option ℤ). o or pos 0) c.int_in.ensures in
    let n =
    to_z-of_z w64 c.clamp-tenths.result (record { sfits = c.clamp-tenths.type_inv })
    ∙ c.clamp-tenths.ensures.value
    ∙ clamp_held 99999999999 (to_z w64 (of_z w64 c.unwrap_or.result))
    ∙ ap (held_by 100000000000) said in
    c.lag_of.ensures _ c.format_of-format.ensures ∙ ap (lag_of c.args.per_day _) n
