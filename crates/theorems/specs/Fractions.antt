-- The fourth count of a project: how many kept tasks have a duration that was not whole minutes, by the sum of its figures. Assumes nothing.
use Rattle.std.specs.Prelude.{if◌then◌else◌, ◌≡◌, Bool, ◌≤◌, T, length, Float}
use Rattle.definition.specs.declared.Unread.TheVariants.{Absent, Long}
use Rattle.std.specs.Prelude.{Err, Ok}
use Rattle.std.proofs.Math.Path.{refl, ap}
use Rattle.std.proofs.Common.{sym, subst, arith}
use Rattle.std.proofs.Math.Bool.{true, false, not}
use Rattle.std.specs.Prelude.{Option, Some, None}
use Rattle.std.specs.Float.Ieee.{le}
use Rattle.definition.specs.Base.{◌>>=◌, keep, when}
use Rattle.definition.specs.Text.{Text, trim}
use Rattle.definition.specs.Number.{Reading, float, half_away, found}
use Rattle.definition.specs.Duration.{◌then◌, figures_of, total_of, most_minutes, duration_at, duration_from, duration_of}
use Rattle.definition.specs.declared.Figures.{Figures}
use Rattle.definition.specs.Tree.{Element}
use Rattle.definition.specs.Field.{text_in, not_whole}
use Rattle.definition.specs.Task.{kept_tasks, context_of, is_fractional}
use Rattle.definition.specs.Read.{project_of, model_of}
use Rattle.laws.specs.Floats.{bound, float-10⁹}
use Rattle.laws.specs.Durations.{not_below, none_below, figures_least, total_least}
use Rattle.laws.specs.Wholes.{eq_whole}
use Rattle.theorems.specs.Told.{sum_in, in_part}

-- ---- a sum

module _ (f : Figures) (h : T (not_below f)) where
  most : le (total_of f) (float most_minutes) ≡ true → half_away (total_of f) ≤ 1000000000
  most e = bound 1953125 9 (total_of f) (total_least f h) (subst (λ (x : Float). T (le (total_of f) x)) float-10⁹ (subst T (sym e) tt))

  sum_is : not_whole (found (duration_from f)) ≡ in_part (when (le (total_of f) (float most_minutes)) (total_of f))
  unfolding duration_from
  sum_is = by (le (total_of f) (float most_minutes)) refl
    where
      by : (t : Bool) → le (total_of f) (float most_minutes) ≡ t → not_whole (found (if t then Ok (duration_at (total_of f)) else (Err Absent))) ≡ in_part (when t (total_of f))
      by true e = ap (λ (w : Bool). not w) (sym (eq_whole (total_of f) (total_least f h) (half_away (total_of f)) refl (omega (arith, most e))))
      by false e = refl

-- ---- a task

text_is : (s : Text) → not_whole (found (duration_of s)) ≡ in_part (found (figures_of (trim s)) >>= λ f. when (le (total_of f) (float most_minutes)) (total_of f))
unfolding duration_of
text_is s = by (figures_of (trim s)) (figures_least (trim s))
  where
    by : (r : Reading Figures) → T (none_below r) → not_whole (found (r then duration_from)) ≡ in_part (found r >>= λ f. when (le (total_of f) (float most_minutes)) (total_of f))
    by (Err Absent) h = refl
    by (Err Long) h = refl
    by (Ok f) h = sum_is f h

pub is_in_part : (t : Element) → is_fractional t ≡ in_part (sum_in t)
unfolding is_fractional
is_in_part t = by (text_in t "Duration")
  where
    by : (o : Option Text) → not_whole (o >>= λ s. found (duration_of s))
        ≡ in_part (o >>= λ s. found (figures_of (trim s)) >>= λ f. when (le (total_of f) (float most_minutes)) (total_of f))
    by None = refl
    by (Some s) = text_is s

-- ---- how many

pub fractional_many : (root : Element) → (model_of root).project.fractional ≡ length (keep (λ t. in_part (sum_in t)) (kept_tasks root))
unfolding model_of project_of context_of
fractional_many root = λ i. length (keep (λ t. is_in_part t i) (kept_tasks root))
