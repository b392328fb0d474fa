use Prim.Native.Nat.{ℕ}
use mathlib.Core.Path.{refl, ap, ◌∙◌}
use Rattle.std.specs.Prelude.{Option}
use Rattle.definition.specs.Base.{◌or◌}
use Rattle.definition.specs.Field.{minutes_in}
use Rattle.definition.specs.Task.{duration_days, duration_minutes}
use Rattle.activities.proofs.Values.{or_unwrap}
use Rattle.activities.proofs.value.plan_of.Goals as goal

pub returns : goal.returns
unfolding minutes_in
returns c =
    let day = c.args.day in
    let e = c.unwrap_or-minutes.ensures ∙ or_unwrap c.minutes_in.result 0 ∙ ap (λ (o : Option ℕ). o or 0) c.minutes_in.ensures in
    record {
      kind_is = c.from.ensures ∙ c.kind_of.ensures;
      days_is = c.duration_parts.ensures.0 ∙ ap (λ (n : ℕ). duration_days n day) e;
      minutes_is = c.duration_parts.ensures.1 ∙ ap (λ (n : ℕ). duration_minutes n day) e;
      parent_is = refl;
    }
