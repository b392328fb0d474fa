use mir.Syntax.{w32}
use Rattle.std.proofs.Common.{rules, ℤ, ap, ◌∙◌, to_z-of_z}
use Rattle.definition.specs.Answer.{day_number_of}
use Rattle.definition.specs.Date.{from_days}
use Rattle.model.proofs.Single.{date_missing, date_read}
use Rattle.model.proofs.parts.take_date.Goals as goal

pub returns-in_default : goal.returns-in_default
returns-in_default c =
    let m = c.from_days.ensures ∙ ap (λ (z : ℤ). day_number_of (from_days z)) (to_z-of_z {w = w32} (record { sfits = search rules })) in
    date_missing c.args.s.now c.args.p c.take_i32-value.ensures m c.in_default.is

pub returns : goal.returns
returns c =
    let m = c.from_days.ensures ∙ ap (λ (z : ℤ). day_number_of (from_days z)) (to_z-of_z {w = w32} (record { sfits = search rules })) in
    rw c.then_some.ensures (date_read c.args.s.now c.args.p c.take_i32-value.ensures m c.in-Some.is)
