-- The days that an iterator over a rule's days has left, and the next of them. Assumes nothing.
use Prim.Native.Nat.{ℕ}
use native.Mathlib.Omega.{arith}
use mathlib.Core.Path.{◌≡◌, refl, sym, ap, ◌∙◌}
use mathlib.Core.List.{List, [], ◌∷◌}
use Rattle.std.specs.Prelude.{Option, Some, None}
use Rattle.definition.specs.Base.{◌>>=◌, ◌or◌}
use Rattle.definition.specs.Date.{Date}
use Rattle.definition.specs.declared.Date.{Date as DayNumber}
use Rattle.date.specs.Scale.{day_count}
use Rattle.recurrence.specs.Days.{days_left}
use Rattle.recurrence.specs.Meaning.{to_come, days_by, said, step_by, step_of}
use Rattle.recurrence.specs.declared.Rule.{Rule}
use Rattle.recurrence.specs.declared.Cursor.{Cursor}
use Rattle.recurrence.specs.declared.Step.{Step}
use Rattle.recurrence.specs.declared.Step.TheVariants.{Day, Done, Skipped}
use Rattle.recurrence.specs.declared.sequence.RuleDays.{RuleDays}
use Rattle.recurrence.proofs.Going.{Right}

pub begun : (r : Rule) (c : Cursor) → to_come r c ≡ days_by r → days_left (record { rule = r; cursor = c }) ≡ (days_by r or [])
unfolding days_left
begun r c e = ap (λ (o : Option (List Date)). o or []) e

not_done : {d : DayNumber} {k : Cursor} → Day d k ≡ Done → ⊥
not_done e = let z : ◌≡◌ {A = ℕ} 0 1 = cc in omega arith

not_skipped : {d : DayNumber} {k : Cursor} → Day d k ≡ Skipped → ⊥
not_skipped e = let z : ◌≡◌ {A = ℕ} 0 1 = cc in omega arith

-- a step of them
module _ (s : RuleDays) {t : Step} (h : Right s.rule s.cursor t) where
  pub day_left : (u : RuleDays) (d : DayNumber) → t ≡ Day d u.cursor → u.rule ≡ s.rule → days_left s ≡ day_count d.0 ∷ days_left u
  unfolding days_left step_of said
  day_left u d e k = by (to_come s.rule s.cursor) (to_come s.rule u.cursor) (sym e ∙ h.0) (sym (ap (said s.rule) e) ∙ h.1) ∙ ap (λ (r : Rule). day_count d.0 ∷ (to_come r u.cursor or [])) (sym k)
    where
      by : (o p : Option (List Date)) → Day d u.cursor ≡ step_by s.cursor o → (p >>= λ l. Some (day_count d.0 ∷ l)) ≡ o → (o or []) ≡ day_count d.0 ∷ (p or [])
      by o (Some l) e f = ap (λ (o : Option (List Date)). o or []) (sym f)
      by o None e f = absurd (not_skipped (e ∙ ap (step_by s.cursor) (sym f)))

  pub none_left : ((d : DayNumber) (k : Cursor) → t ≡ Day d k → ⊥) → days_left s ≡ []
  unfolding days_left step_of
  none_left n = by (to_come s.rule s.cursor) h.0
    where
      by : (o : Option (List Date)) → t ≡ step_by s.cursor o → (o or []) ≡ []
      by None e = refl
      by (Some []) e = refl
      by (Some (x ∷ l)) e = absurd (n _ _ e)
