use mir.Syntax.{w64}
use mir.ValLaws.{to_z-of_z}
use Rattle.mspdi.specs.Outcome.{leaves, from_zero}
use Prim.Native.Nat.{ℕ}
use mathlib.Core.Path.{ap, ◌∙◌}
use lib.ListN.{length}
use Rattle.definition.specs.Refusal.{Answer}
use Rattle.number.specs.Written.{minutes_answer}
use Rattle.mspdi.proofs.Left.{is_left, by_sign}
use Rattle.mspdi.proofs.mspdi_duration.Goals as goal

pub returns : goal.returns
returns c =
    let room = length c.args.text.now in
    let n = c.from_zero.ensures ∙ ap from_zero (to_z-of_z w64 c.args.minutes c.ranges.minutes) in
    is_left c.told.result c.told.new.written c.duration_text-a.ensures c.told.ensures.0 c.told.ensures.1
    ∙ ap (λ (a : Answer). leaves room a) (ap (λ (k : ℕ). minutes_answer k room) n ∙ by_sign c.args.minutes room)
