-- The columns of parents: a row of them. Assumes nothing.
use Prim.Native.Nat.{ℕ, ◌+◌, ◌-◌, ◌*◌, ◌≤◌, ◌<◌}
use native.Mathlib.Omega.{arith}
use mathlib.Core.Path.{◌≡◌, refl, sym, ap, ◌∙◌}
use mathlib.Core.List.{List, map}
use Rattle.std.specs.Prelude.{Option, Some, None}
use Rattle.std.specs.Option.{SomeIff}
use lib.ListN.{length, set, take}
use Rattle.definition.specs.Task.{level_of, kept_tasks, parent_of}
use Rattle.definition.specs.Text.{Text}
use Rattle.definition.specs.Tree.{Element}
use Rattle.index.specs.Last.{last_below, word_of}
use Rattle.tree.specs.Place.{meaning}
use Rattle.tree.specs.declared.element.Element.{Element as Place}
use Rattle.activities.specs.Climbing.{parents_are, held_lower, held_climbs, noted_not, noted_is}
use Rattle.activities.specs.Parents.{place_at, parent_at, noted, lower, level_in, Climbs, Ready}
use Rattle.activities.specs.declared.parents.Columns.{Columns}

-- ---- a row as a word

pub word_back : (w : ℕ) (o : Option ℕ) → SomeIff o (1 ≤ w) (w - 1) → word_of o ≡ w
word_back w None h = omega (arith, h)
word_back w (Some r) h = omega (arith, h)

word_same : (a b : Option ℕ) → word_of a ≡ word_of b → a ≡ b
word_same None None e = refl
word_same None (Some r) e = absurd (omega arith)
word_same (Some q) None e = absurd (omega arith)
word_same (Some q) (Some r) e = ap Some (omega arith)

-- ---- the parent of a row

module _ {s : Text} {root : Element} {own : Columns} {row : ℕ} {task : Place} {w : List ℕ} (r : Ready s root own row task w) where
  -- by a scan
  pub parent_scanned : own.rows ≤ row → {level : ℕ} → level ≡ level_of (meaning task) → (o : Option ℕ) → o ≡ parent_of (map level_of (take row (kept_tasks root))) level
      → (o ≡ parent_of (map level_of (take row (kept_tasks root))) (level_of (meaning task))) × (w ≡ noted own row task.at o w)
  parent_scanned h e o i = (i ∙ ap (parent_of (map level_of (take row (kept_tasks root)))) e, sym (noted_not own row task.at o w h))

  module _ (few : row < own.rows) where
    pub words_there : own.at + 2 * row + 2 ≤ length w
    words_there = let z = r.own_room.room (omega arith) in omega arith

    pub ready_climbs : Climbs s own.at row w
    ready_climbs = held_climbs (r.held (omega arith)) (omega (arith, words_there))

    pub parent_climbed : {level k : ℕ} → level ≡ level_of (meaning task) → k ≡ word_of (last_below (lower (level_in s own.at w) level) row) → (o : Option ℕ) → word_of o ≡ k
        → (o ≡ parent_of (map level_of (take row (kept_tasks root))) (level_of (meaning task))) × (set (set w (place_at own.at row) task.at) (parent_at own.at row) k ≡ noted own row task.at o w)
    parent_climbed {level} e h o i = (
      word_same _ _ (i ∙ h)
          ∙ held_lower (r.held (omega arith)) level row (omega arith)
          ∙ sym (parents_are root row level r.few)
          ∙ ap (parent_of (map level_of (take row (kept_tasks root)))) e,
      ap (set (set w (place_at own.at row) task.at) (parent_at own.at row)) (sym i) ∙ sym (noted_is own row task.at o w few),
    )
