use mathlib.Core.Path.{ap, ◌∙◌}
use lib.IntN.{ℤ}
use mir.Facts.{to_z-of_z}
use mir.Syntax.{w32}
use Rattle.definition.specs.Answer.{day_number_of}
use Rattle.definition.specs.Date.{from_days}
use Rattle.definition.specs.declared.Date.{Date}
use Rattle.pack.proofs.Puts.{day_or}
use Rattle.pack.proofs.value.day_number.Goals as goal

pub returns : goal.returns
returns c =
    let e = c.from_days.ensures ∙ ap (λ (z : ℤ). day_number_of (from_days z)) (to_z-of_z {w = w32} (record { sfits = c.struct_told-1.given.0.1 })) in
    to_z-of_z {w = w32} (record { sfits = c.struct_told-2-1.given.0.1 }) ∙ ap (λ (d : Date). d.0) c.unwrap_or.ensures ∙ day_or _ _ e
