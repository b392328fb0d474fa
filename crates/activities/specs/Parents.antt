-- The nearest row before a task that has a lower level, by climbing: what the words hold. Assumes nothing: these are definitions.
use Rattle.std.specs.Prelude.{if◌then◌else◌, ℕ, ◌+◌, ◌*◌, ◌^◌, ◌≤◌, ◌<◌, ◌≡◌, Bool, List, ltb, length, get_or, set}
use Rattle.std.specs.Prelude.{Option}
use Rattle.definition.specs.Task.{level_of, kept_tasks}
use Rattle.definition.specs.Text.{Text}
use Rattle.definition.specs.Tree.{Element}
use Rattle.index.specs.Last.{last_below, word_of}
use Rattle.rows.specs.Tables.{no_element}
use Rattle.tree.specs.Place.{element_at, Within}
use Rattle.tree.specs.declared.element.Element.{Element as Place}
use Rattle.activities.specs.declared.parents.Columns.{Columns}

-- ---- two words a row: where its element stands in the tree, and its parent row plus 1, 0 for none

-- from a word on
abbrev pub place_at : ℕ → ℕ → ℕ
place_at first r = first + 2 * r

abbrev pub parent_at : ℕ → ℕ → ℕ
parent_at first r = first + 2 * r + 1

-- where they end
abbrev pub end_of : Columns → ℕ
end_of own = own.at + 2 * own.rows

-- with those of a row, where there are words for it
unfoldable pub noted : Columns → ℕ → ℕ → Option ℕ → List ℕ → List ℕ
noted own row at parent w =
    if ltb row own.rows then set (set w (place_at own.at row) at) (parent_at own.at row) (word_of parent) else w

-- the words are there, and 32 bits hold each position
pub record Room (own : Columns) (len bytes : ℕ) : Type 0 where
  pub room : 0 < own.rows → end_of own ≤ len
  pub short : 0 < own.rows → bytes < 2 ^ 32

-- behind a place
abbrev pub Behind : Columns → ℕ → Type 0
Behind own from = 0 < own.rows → from ≤ own.at

-- ---- climbing

-- whether a row has a lower level
abbrev pub lower : (ℕ → ℕ) → ℕ → ℕ → Bool
lower levels l r = ltb (levels r) l

-- the level of a row, at its element
abbrev pub level_in : Text → ℕ → List ℕ → ℕ → ℕ
level_in s first w r = level_of (element_at s (get_or w (place_at first r) 0))

-- the parents of the rows below n are there
pub record Climbs (s : Text) (first n : ℕ) (w : List ℕ) : Type 0 where
  pub room : first + 2 * n ≤ length w
  pub parents : (r : ℕ) → r < n → get_or w (parent_at first r) 0 ≡ word_of (last_below (lower (level_in s first w) (level_in s first w r)) r)

-- ---- the kept tasks

abbrev pub task_at : Element → ℕ → Element
task_at root r = get_or (kept_tasks root) r no_element

abbrev pub level_at : Element → ℕ → ℕ
level_at root r = level_of (task_at root r)

-- the words of the rows below n are those of the kept tasks
pub record Held (s : Text) (root : Element) (first n : ℕ) (w : List ℕ) : Type 0 where
  pub stands : (r : ℕ) → r < n → element_at s (get_or w (place_at first r) 0) ≡ task_at root r
  pub parents : (r : ℕ) → r < n → get_or w (parent_at first r) 0 ≡ word_of (last_below (lower (level_at root) (level_at root r)) r)

-- the next one can be noted
pub record Ready (s : Text) (root : Element) (own : Columns) (row : ℕ) (task : Place) (w : List ℕ) : Type 0 where
  pub own_room : Room own (length w) (length s)
  pub held : row ≤ own.rows → Held s root own.at row w
  pub few : row ≤ length (kept_tasks root)
  pub there : Within s 0 task
