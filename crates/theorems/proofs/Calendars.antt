-- No activity has the main calendar as one of its own. Assumes nothing.
use Rattle.std.specs.Prelude.{◌≡◌, ℕ}
use Rattle.std.proofs.Math.Path.{ap}
use Rattle.std.proofs.Common.{sym, ◌∙◌, arith}
use Rattle.std.specs.Prelude.{Some}
use Rattle.definition.specs.Tree.{Element}
use Rattle.definition.specs.Model.{Activity}
use Rattle.definition.specs.Task.{context_of, kept_tasks, calendar_name_of, activity_of}
use Rattle.definition.specs.Read.{model_of}
use Rattle.theorems.specs.Leads.{At, at_in, leads}
use Rattle.theorems.specs.Made.{as_many_lem, made}
use Rattle.theorems.specs.Told.{main_of}
use Rattle.theorems.specs.Calendars.{unless_other}

module _ (root : Element) where
  pub activity_other_lem : (row : ℕ) (a : Activity) → At (model_of root).activities row a → a.calendar ≡ Some (main_of root).name → ⊥
  unfolding activity_of context_of
  activity_other_lem row a e h =
      let t = leads (kept_tasks root) row (omega (arith, as_many_lem root, at_in (model_of root).activities row a e)) in
      let w = (made root row t.item a t.is e).whole in
      unless_other (context_of root) (calendar_name_of (context_of root) t.item) (sym (ap (λ (a : Activity). a.calendar) w) ∙ h)
