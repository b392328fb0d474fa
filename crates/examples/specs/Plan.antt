-- A small plan, read and decoded: tasks of levels 1, 3, 2, 1, of which the second and the third have one WBS and one UID, and three links in the last, one kept, one
-- dangling and one across projects. Assumes nothing.
use Rattle.std.specs.Prelude.{ℕ, ◌≡◌, refl, List, [], ◌∷◌, ◌++◌, map}
use Prim.Native.String.{String}
use Rattle.std.specs.Prelude.{Option, Some, None}
use Rattle.definition.specs.Base.{◌>>=◌}
use Rattle.definition.specs.Ascii.{bytes}
use Rattle.definition.specs.Text.{Text}
use Rattle.definition.specs.Tree.{Rec, packed}
use Rattle.definition.specs.Model.{Activity, Link, Model}
use Rattle.definition.specs.Pack.{decode}
use Rattle.definition.specs.Outline.{outline}
use Rattle.definition.specs.Refusal.{output, read_answer}
use Rattle.examples.specs.Open.{opened}
use Rattle.examples.specs.Hand.{element_at_lem}

abbrev task : String → String → String → List Rec
task uid wbs level = element_at_lem 3 "Task" "" ∷ element_at_lem 4 "UID" uid ∷ element_at_lem 4 "WBS" wbs ∷ element_at_lem 4 "OutlineLevel" level ∷ []

abbrev link : String → String → List Rec
link uid across = element_at_lem 4 "PredecessorLink" "" ∷ element_at_lem 5 "PredecessorUID" uid ∷ element_at_lem 5 "CrossProject" across ∷ []

abbrev pub plan : List Rec
plan =
    element_at_lem 1 "Project" "" ∷ element_at_lem 2 "Tasks" "" ∷
    task "1" "A" "1" ++ (task "2" "B" "3" ++ (task "2" "B" "2" ++ (task "3" "C" "1" ++ (link "2" "0" ++ (link "9" "0" ++ link "1" "1")))))

-- what is looked at: ids, parents, the outline, the ends of the links, and how many dangle and go across
pub record View : Type 0 where
  pub ids : List Text
  pub parents : List (Option ℕ)
  pub rows : List (ℕ × ℕ)
  pub ends : List (ℕ × ℕ)
  pub dangling : ℕ
  pub across : ℕ

abbrev view_of : Model → View
view_of m = record {
  ids = map (λ (a : Activity). a.id) m.activities;
  parents = map (λ (a : Activity). a.parent) m.activities;
  rows = outline m;
  ends = map {B = ℕ × ℕ} (λ (l : Link). (l.predecessor, l.successor)) m.links;
  dangling = m.project.dangling;
  across = m.project.across;
}

-- the second of one WBS gains a star, and the last of one UID is meant
pub small_plan : (decode (output (read_answer (packed plan) 1000)) >>= λ m. Some (view_of m)) ≡ Some (record {
  ids = bytes "A" ∷ bytes "B" ∷ bytes "B*" ∷ bytes "C" ∷ [];
  parents = None ∷ Some 0 ∷ Some 0 ∷ None ∷ [];
  rows = (0, 1) ∷ (1, 2) ∷ (2, 2) ∷ (3, 1) ∷ [];
  ends = (2, 3) ∷ [];
  dangling = 1;
  across = 1;
})
unfolding opened
small_plan = refl
