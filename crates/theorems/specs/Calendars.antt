-- The main calendar stands first, and what has no calendar of its own has that one; how many exceptions give no rule. Assumes nothing.
use Rattle.std.specs.Prelude.{◌++◌, ◌≡◌, Bool, not, List, [], ◌∷◌, map, ℕ, zero, suc}
use Rattle.std.proofs.Math.Path.{refl, ap}
use Rattle.std.proofs.Common.{sym, ◌∙◌, true≢false}
use Rattle.std.specs.Prelude.{Option, Some, None}
use Rattle.std.proofs.lemmas.Bool.{not-true}
use Rattle.std.proofs.Math.ListN.{length}
use Rattle.definition.specs.Base.{◌>>=◌, given, keep, same}
use Rattle.definition.specs.Text.{Text}
use Rattle.definition.specs.Tree.{Element}
use Rattle.definition.specs.Field.{text_in}
use Rattle.definition.specs.Recurrence.{Rule, rule_of, days_of_rule, recurrence_days}
use Rattle.definition.specs.Model.{Resource}
use Rattle.definition.specs.Calendar.{name_of, skipped}
use Rattle.definition.specs.Task.{Context, context_of, unless_main}
use Rattle.definition.specs.Resource.{work_resources, resource_of, resources_after, resources}
use Rattle.definition.specs.Read.{project_of, calendars_of, model_of}
use Rattle.laws.specs.Each.{Each, empty, next, each_append}
use Rattle.laws.specs.Formats.{got}
use Rattle.laws.specs.Options.{never, when_is}
use Rattle.theorems.specs.Leads.{At, same_if}
use Rattle.theorems.specs.Told.{exception_elements, gives_no_rule, main_of}

-- a name that is used is not the main one's
pub unless_other : (x : Context) (o : Option Text) → (o >>= unless_main x) ≡ Some x.main.name → ⊥
unless_other x None h = never h
unless_other x (Some n) h =
    let (t, e) = when_is (not (same n x.main.name)) n x.main.name h in
    true≢false (sym (same_if e) ∙ not-true (same n x.main.name) t)

each_at : {A : Type 0} {P : A → Type 0} {l : List A} → Each P l → (i : ℕ) (x : A) → At l i x → P x
each_at empty i x e = never e
each_at {P = P} (next h hs) zero x e = got P e h
each_at (next h hs) (suc i) x e = each_at hs i x e

resources_each : (x : Context) (P : Resource → Type 0) → ((ids : List Text) (r : Element) → P (resource_of x ids r)) → {done : List Resource} → Each P done → (rs : List Element)
    → Each P (resources_after x done rs)
unfolding resources_after
resources_each x P f {done} d [] = d
resources_each x P f {done} d (r ∷ rs) = resources_each x P f {done = done ++ (resource_of x (map (λ (d : Resource). d.id) done) r ∷ [])} (each_append d (next (f (map (λ (d : Resource). d.id) done) r) empty)) rs

no_rule : (x : Element) → not (given (recurrence_days x)) ≡ gives_no_rule x
unfolding recurrence_days
no_rule x = by (rule_of x)
  where
    by : (o : Option Rule) → not (given (o >>= λ r. Some (days_of_rule r))) ≡ not (given o)
    by None = refl
    by (Some r) = refl

module _ (root : Element) where
  pub skipped_many : (model_of root).project.skipped ≡ length (keep gives_no_rule (exception_elements root))
  unfolding model_of project_of skipped
  skipped_many = ap (λ (p : Element → Bool). length (keep p (exception_elements root))) (λ i x. no_rule x i)

  pub main_first_lem : At (model_of root).calendars 0 (main_of root)
  unfolding model_of calendars_of context_of
  main_first_lem = refl

  pub resource_other_lem : (row : ℕ) (r : Resource) → At (model_of root).resources row r → r.calendar ≡ Some (main_of root).name → ⊥
  unfolding model_of resources resource_of context_of
  resource_other_lem =
      let x = context_of root in
      each_at {P = λ (r : Resource). r.calendar ≡ Some (main_of root).name → ⊥}
      (resources_each x (λ (r : Resource). r.calendar ≡ Some (main_of root).name → ⊥) (λ ids r. unless_other x (text_in r "CalendarUID" >>= name_of x.built)) empty (work_resources root))
