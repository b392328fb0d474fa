-- The week as the WeekDays say, one after another. Assumes nothing.
use Rattle.std.proofs.Common.{◌≡◌, Bool, List, [], ◌∷◌, sym, ap, ◌∙◌}
use Rattle.std.specs.Prelude.{Option, Some, None}
use Rattle.definition.specs.Ascii.{bytes}
use Rattle.definition.specs.Tree.{Element, child, all, all_in}
use Rattle.definition.specs.Calendar.{week_days, week_by}
use Rattle.calendar.specs.Week.{week_with}

module _ (whole : List Bool) (l : List Element) (week : List Bool) (h : whole ≡ week_by l week) where
  pub day_next : {e : Element} {k : List Element} {after : List Bool} → l ≡ e ∷ k → after ≡ week_with e week → whole ≡ week_by k after
  unfolding week_by
  day_next {k = k} z f = h ∙ ap (λ (l : List Element). week_by l week) z ∙ ap (week_by k) (sym f)

  pub day_last : l ≡ [] → week ≡ whole
  unfolding week_by
  day_last z = sym (h ∙ ap (λ (l : List Element). week_by l week) z)

pub days_in_lem : (e c : Element) (week : List Bool) → child e (bytes "WeekDays") ≡ Some c → week_by (all c (bytes "WeekDay")) week ≡ week_by (week_days e) week
days_in_lem e c week z = sym (ap (λ (o : Option Element). week_by (all_in o (bytes "WeekDay")) week) z)

pub no_days_in : (e : Element) (week : List Bool) → child e (bytes "WeekDays") ≡ None → week ≡ week_by (week_days e) week
unfolding week_by
no_days_in e week z = sym (ap (λ (o : Option Element). week_by (all_in o (bytes "WeekDay")) week) z)
