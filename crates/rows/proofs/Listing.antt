-- The walk over a list of elements with a UID, and the table that is filled on it. Assumes nothing.
use Rattle.std.proofs.Common.{◌≡◌, ℕ, ◌^◌, ◌<◌, ◌≤◌, max, Bool, List, [], ◌∷◌, length, sym, ap, ◌∙◌, arith}
use Rattle.std.specs.Prelude.{None, Option, Some}
use Rattle.definition.specs.Ascii.{bytes}
use Rattle.definition.specs.Text.{Text}
use Rattle.definition.specs.Tree.{Element, all_in, child}
use Rattle.definition.specs.Resource.{work_resources, cost_resources}
use Rattle.laws.specs.FitTrees.{keep_most, tasks_most}
use Rattle.tree.specs.Place.{meaning, later, Past}
use Rattle.tree.specs.Few.{children_few}
use Rattle.tree.specs.Root.{root_at, in_resources}
use Rattle.tree.specs.declared.root.Root.{Root}
use Rattle.tree.specs.declared.element.Element.{Element as Place}
use Rattle.rows.specs.Turns.{past_all, work_picked, cost_picked}
use Rattle.rows.specs.Walks.{is_work, is_cost_resource, picked_by, Picks}
use Rattle.rows.specs.Tables.{listed}
use Rattle.rows.specs.declared.table.Listed.{Listed}

-- ---- where a list begins

abbrev resources_in : Element → List Element
resources_in root = all_in (child root (bytes "Resources")) (bytes "Resource")

module _ (root : Element) {s : Text} {m : ℕ} {r : Option Place} where
  pub first_work : Picks s (bytes "Resource") is_work (resources_in root) m r → (picked_by (bytes "Resource") is_work r ≡ work_resources root) × Past s 0 r
  first_work h = (sym h.is ∙ work_picked root, past_all s m r h.there)

  pub first_cost : Picks s (bytes "Resource") is_cost_resource (resources_in root) m r → (picked_by (bytes "Resource") is_cost_resource r ≡ cost_resources root) × Past s 0 r
  first_cost h = (sym h.is ∙ cost_picked root, past_all s m r h.there)

-- ---- a step of the iterator

module _ (n : Text) (w : Element → Bool) {o : Option Place} where
  pub picks_stop : o ≡ None → picked_by n w o ≡ []
  unfolding picked_by
  picks_stop e = rw e

  pub picks_step : {x : Place} → o ≡ Some x → {s : Text} {m : ℕ} {r : Option Place} → Picks s n w (later n x) m r → picked_by n w o ≡ meaning x ∷ picked_by n w r
  unfolding picked_by
  picks_step {x} e h = rw e (ap (λ (k : List Element). meaning x ∷ k) h.is)

-- ---- how many there are

pub listed_most : (root : Root) (l : Listed) → length (listed l (root_at root)) ≤ max (length root.tree.now) 100000
listed_most root l = by l
  where
    es : List Element
    es = resources_in (root_at root)

    f : length es ≤ length root.tree.now
    f = rw (in_resources root (bytes "Resource")) (children_few root.tree.now root.resources (bytes "Resource"))

    by : (l : Listed) → length (listed l (root_at root)) ≤ max (length root.tree.now) 100000
    by Listed.Tasks = omega (arith, tasks_most (root_at root))
    by Listed.Work = rw (← work_picked (root_at root)) (omega (arith, f, keep_most is_work es))
    by Listed.Cost = rw (← cost_picked (root_at root)) (omega (arith, f, keep_most is_cost_resource es))

pub listed_few : (root : Root) (l : Listed) → length root.tree.now < 2 ^ 32 → length (listed l (root_at root)) < 2 ^ 32
listed_few root l h = omega (arith, listed_most root l)
