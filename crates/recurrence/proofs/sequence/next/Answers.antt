use Rattle.std.proofs.Common.{rules, tests}
use Prim.Native.Nat.{◌-◌, ◌<◌}
use native.Mathlib.Omega.{arith}
use mathlib.Core.Path.{◌≡◌, ap, sym, subst, subst⁻¹, ◌∙◌}
use mathlib.Core.Bool.{true}
use Rattle.definition.specs.declared.Date.{Date}
use Rattle.recurrence.specs.Scale.{scaled_by, day_date}
use Rattle.recurrence.specs.declared.scale.Scaled.{Scaled}
use Rattle.recurrence.specs.declared.Step.TheVariants.{Day}
use Rattle.recurrence.specs.Meaning.{sound, coming, Comes}
use Rattle.recurrence.proofs.Counts.{dated}
use Rattle.recurrence.proofs.Going.{Right, not_sound, no_kind, done, day_next}
use Rattle.recurrence.proofs.sequence.next.Goals as goal
use Rattle.recurrence.proofs.sequence.next.Goals.{Else-not-is_sound}

sounds : (c : Else-not-is_sound) → sound (scaled_by c.args.r) ≡ true
sounds c = ap sound (sym c.to_scale-t.ensures) ∙ sym c.if-not-is_sound.ensures

pub returns-then-not-is_sound : goal.returns-then-not-is_sound
returns-then-not-is_sound c =
    not_sound c.args.r c.args.c (ap sound (sym c.to_scale-t.ensures) ∙ sym c.if-not-is_sound.ensures)

pub returns-in_default : goal.returns-in_default
returns-in_default c = no_kind c.args.r c.args.c (sounds (goal.at.returns-in_default c).Else-not-is_sound) c.kind_of.ensures c.in_default.is

pub returns-in_default-day_from : goal.returns-in_default-day_from
returns-in_default-day_from c =
    done c.args.r c.args.c (sounds (goal.at.returns-in_default-day_from c).Else-not-is_sound) c.kind_of.ensures c.in-Some.is
    (ap (λ (t : Scaled). coming t c.args.c) (sym c.to_scale-t.ensures) ∙ c.in_default-day_from.ensures)

pub returns : goal.returns
returns c =
    let x = c.in-Some-day_from.x in
    let r = c.args.r in
    let n = c.args.c.left - 1 in
    let low : x < 7304850 = search (rules, tests) in
    subst⁻¹ (λ (d : Date). Right r c.args.c (Day d (record { at = c.at_count.result; left = n }))) (dated c.at_count-2.ensures (omega (arith, low)))
    (subst⁻¹ (λ (d : Date). Right r c.args.c (Day (day_date x) (record { at = d; left = n }))) (dated c.at_count.ensures (omega (arith, low)))
    (day_next r c.args.c (sounds (goal.at.returns c).Else-not-is_sound) c.kind_of.ensures c.in-Some.is x (subst (λ (t : Scaled). Comes t c.args.c x) c.to_scale-t.ensures c.in-Some-day_from.ensures)))
