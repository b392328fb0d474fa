-- Contexts that agree on the names of calendars give the same activities and resources. Assumes nothing.
use Rattle.std.specs.Prelude.{if◌then◌else◌, ◌≡◌, Bool, true, false, not, ℕ, length}
use Rattle.std.proofs.Math.Path.{refl, ap}
use Rattle.std.proofs.Common.{◌∙◌}
use mathlib.Core.List.{List, [], ◌∷◌, ◌++◌, map}
use Rattle.std.specs.Prelude.{Option, Some, None}
use Rattle.definition.specs.Base.{◌>>=◌, when, same}
use Rattle.definition.specs.Ascii.{bytes}
use Rattle.definition.specs.Text.{Text}
use Rattle.definition.specs.Tree.{Element}
use Rattle.definition.specs.Field.{text_in}
use Rattle.definition.specs.Model.{Activity, Resource}
use Rattle.definition.specs.Calendar.{name_of, elapsed_name}
use Rattle.definition.specs.Task.{Context, unless_main, is_elapsed, calendar_name_of, level_of, activity_of, activities_after, activities}
use Rattle.definition.specs.Resource.{resource_of, resources_after, resources, work_resources}
use Rattle.laws.specs.Options.{bind_ext}

pub record Agree (x y : Context) : Type 0 where
  pub per_day : x.per_day ≡ y.per_day
  pub names : (u : Text) → name_of x.built u ≡ name_of y.built u
  pub main : x.main.name ≡ y.main.name
  pub tasks : x.tasks ≡ y.tasks

module _ {x y : Context} (h : Agree x y) where
  unless_agree : (o : Option Text) → (o >>= unless_main x) ≡ (o >>= unless_main y)
  unless_agree None = refl
  unless_agree (Some n) = ap (λ (m : Text). when (not (same n m)) n) h.main

  name_agree : (o : Option Text) → (o >>= name_of x.built) ≡ (o >>= name_of y.built)
  name_agree None = refl
  name_agree (Some u) = h.names u

  pub named_agree : (o : Option Text) → (o >>= name_of x.built >>= unless_main x) ≡ (o >>= name_of y.built >>= unless_main y)
  named_agree o = unless_agree (o >>= name_of x.built) ∙ ap (λ (p : Option Text). p >>= unless_main y) (name_agree o)

  calendar_agree : (t : Element) → calendar_name_of x t ≡ calendar_name_of y t
  calendar_agree t = by_test (is_elapsed t)
    where
      by_test : (b : Bool)
          → (if b then Some elapsed_name else (text_in t "CalendarUID" >>= λ u. when (not (same u (bytes "-1"))) u >>= name_of x.built))
          ≡ (if b then Some elapsed_name else (text_in t "CalendarUID" >>= λ u. when (not (same u (bytes "-1"))) u >>= name_of y.built))
      by_test true = refl
      by_test false = bind_ext (text_in t "CalendarUID") _ (λ u. when (not (same u (bytes "-1"))) u >>= name_of y.built) (λ u. name_agree (when (not (same u (bytes "-1"))) u))

  -- an activity's calendar
  pub task_agree : (t : Element) → (calendar_name_of x t >>= unless_main x) ≡ (calendar_name_of y t >>= unless_main y)
  task_agree t = unless_agree (calendar_name_of x t) ∙ ap (λ (p : Option Text). p >>= unless_main y) (calendar_agree t)

  activity_agree : (ids : List Text) (levels : List ℕ) (e : Bool) (t : Element) → activity_of x ids levels e t ≡ activity_of y ids levels e t
  unfolding activity_of
  activity_agree ids levels e t = rw (h.per_day, task_agree t)

  all_agree : (e : ℕ → Bool) (done : List Activity) (levels : List ℕ) (ts : List Element) → activities_after x e done levels ts ≡ activities_after y e done levels ts
  unfolding activities_after
  all_agree e done levels [] = refl
  all_agree e done levels (t ∷ ts) =
      let a = activity_agree (map (λ (a : Activity). a.id) done) levels (e (length done)) t in
      all_agree e (done ++ (activity_of x (map (λ (a : Activity). a.id) done) levels (e (length done)) t ∷ [])) (levels ++ (level_of t ∷ [])) ts ∙ ap (λ (a : Activity). activities_after y e (done ++ (a ∷ [])) (levels ++ (level_of t ∷ [])) ts) a

  pub activities_agree : (e : ℕ → Bool) → activities x e ≡ activities y e
  unfolding activities
  activities_agree e = all_agree e [] [] x.tasks ∙ ap (activities_after y e [] []) h.tasks

  resource_agree : (ids : List Text) (r : Element) → resource_of x ids r ≡ resource_of y ids r
  unfolding resource_of
  resource_agree ids r = rw (named_agree (text_in r "CalendarUID"))

  after_agree : (done : List Resource) (rs : List Element) → resources_after x done rs ≡ resources_after y done rs
  unfolding resources_after
  after_agree done [] = refl
  after_agree done (r ∷ rs) = after_agree (done ++ (resource_of x (map (λ (d : Resource). d.id) done) r ∷ [])) rs ∙ ap (λ (a : Resource). resources_after y (done ++ (a ∷ [])) rs) (resource_agree (map (λ (d : Resource). d.id) done) r)

  pub resources_agree : (root : Element) → resources x root ≡ resources y root
  unfolding resources
  resources_agree root = after_agree [] (work_resources root)
