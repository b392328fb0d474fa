-- An activity has no parent where no earlier kept task is of a lower level. Assumes nothing.
use Rattle.std.specs.Prelude.{◌≡◌, refl, ℕ, ◌<◌, length}
use Rattle.std.proofs.Common.{arith}
use Rattle.std.specs.Prelude.{Option, Some, None}
use Rattle.definition.specs.Tree.{Element}
use Rattle.definition.specs.Model.{Activity}
use Rattle.definition.specs.Task.{kept_tasks}
use Rattle.definition.specs.Read.{model_of}
use Rattle.theorems.specs.Leads.{At, at_in, leads}
use Rattle.theorems.specs.Told.{NoneLower, IsParent}
use Rattle.theorems.specs.Made.{as_many_lem}
use Rattle.theorems.specs.Parents.{nearest_parent}

-- ---- the activities

module _ (root : Element) where
  pub no_parent : (row : ℕ) (a : Activity) → At (model_of root).activities row a → NoneLower (kept_tasks root) row → a.parent ≡ None
  no_parent row a h f = by a.parent (nearest_parent root row a h)
    where
      by : (o : Option ℕ) → IsParent (kept_tasks root) row o → o ≡ None
      by None g = refl
      by (Some p) g =
          let r : row < length (kept_tasks root) = omega (arith, as_many_lem root, at_in (model_of root).activities row a h) in
          let t = leads (kept_tasks root) row r in
          let u = leads (kept_tasks root) p (omega (arith, g.earlier)) in
          absurd (omega (arith, g.lower t.item u.item t.is u.is, f p t.item u.item g.earlier t.is u.is))
