-- What becomes of link elements, and how many of each there are. `find` gives the row of a UID among the kept tasks. Assumes nothing: these are
-- definitions.
use Rattle.std.specs.Prelude.{if◌then◌else◌, ◌≡◌, ℕ, ◌+◌, ◌%◌, ◌^◌, Bool, true, false, List, [], ◌∷◌, ◌++◌, map, length}
use Rattle.index.specs.declared.Table.{Table}
use mathlib.Core.List.{flat_map}
use Rattle.std.specs.Prelude.{Option, Some, None}
use Rattle.definition.specs.Base.{◌>>=◌, keep, numbered, some?}
use Rattle.definition.specs.Ascii.{bytes}
use Rattle.definition.specs.Text.{Text}
use Rattle.definition.specs.Tree.{Element, all}
use Rattle.definition.specs.Field.{text_in, yes_in}
use Rattle.definition.specs.Model.{Link}
use Rattle.definition.specs.Calendar.{default_calendar}
use Rattle.definition.specs.Task.{Context}
use Rattle.definition.specs.Link.{Fate, link_of, fate_by, kept_of, is_dangling, is_across}
use Rattle.tree.specs.Root.{root_at}
use Rattle.tree.specs.declared.root.Root.{Root}
use Rattle.rows.specs.Tables.{row_in}
use Rattle.rows.specs.declared.table.Listed.TheVariants.{Tasks}
use Rattle.links.specs.declared.Fates.{Fates}
use Rattle.links.specs.declared.TaskFinder.{TaskFinder}
use Rattle.links.specs.declared.fate.LeftOut.{LeftOut}
use Rattle.links.specs.declared.fate.LeftOut.TheVariants.{Across, Dangling}
use Rattle.std.specs.Prelude.{Ok, Err, Result}
use Rattle.std.specs.Option.{ok_or}

abbrev pub Finder : Type 0
Finder = Text → Option ℕ

-- as the words say it, by the table of the kept tasks
abbrev pub task_in : Root → List ℕ → Option Table → Finder
task_in root w tasks = row_in root.tree.now (root_at root) Tasks w tasks

abbrev pub found_by : TaskFinder → Finder
found_by f = task_in f.root f.words.now f.table

-- ---- the definition's fates and links, by a finder

unfoldable pub fate_to : Finder → Context → ℕ → Element → Fate
fate_to find x successor l = if yes_in l "CrossProject" then Fate.across else fate_by x successor l (text_in l "PredecessorUID" >>= find)

unfoldable pub fates_by : Finder → Context → List Fate
fates_by find x = flat_map (λ (p : ℕ × Element). map (fate_to find x p.0) (all p.1 (bytes "PredecessorLink"))) (numbered 0 x.tasks)

unfoldable pub links_by : Finder → Context → List Link
links_by find x = kept_of (fates_by find x)

-- ---- a link element

-- the row of its predecessor, or why it is not kept
abbrev pub LinkFate : Type 0
LinkFate = Result ℕ LeftOut

unfoldable pub fate_for : Finder → Element → LinkFate
fate_for find l = if yes_in l "CrossProject" then Err Across else ok_or (text_in l "PredecessorUID" >>= find) Dangling

-- the link is kept: it is not across, and its predecessor is a kept task
unfoldable pub is_kept_link : Finder → Element → Bool
is_kept_link find l = if yes_in l "CrossProject" then false else present (text_in l "PredecessorUID" >>= find)
  where
    present : Option ℕ → Bool
    present None = false
    present (Some n) = true

-- a kept link enters a task
unfoldable pub is_entered : Finder → Element → Bool
is_entered find t = some? (is_kept_link find) (all t (bytes "PredecessorLink"))

-- ---- how many

-- how many dangle and go across, as 32 bits hold it
pub record Counted (l : List Fate) (r : Fates) : Type 0 where
  pub dangling_is : r.dangling ≡ length (keep is_dangling l) % 2 ^ 32
  pub across_is : r.across ≡ length (keep is_across l) % 2 ^ 32

-- with one more
abbrev pub counted_by : Fates → LinkFate → Fates
counted_by n (Err Across) = record { dangling = n.dangling; across = (n.across + 1) % 2 ^ 32 }
counted_by n (Err Dangling) = record { dangling = (n.dangling + 1) % 2 ^ 32; across = n.across }
counted_by n (Ok p) = n

-- with some link elements, and with those of some tasks
unfoldable pub counted_in : Finder → Fates → List Element → Fates
counted_in find n [] = n
counted_in find n (l ∷ ls) = counted_in find (counted_by n (fate_for find l)) ls

unfoldable pub counted_of : Finder → Fates → List Element → Fates
counted_of find n [] = n
counted_of find n (t ∷ ts) = counted_of find (counted_in find n (all t (bytes "PredecessorLink"))) ts

-- ---- the kept ones

-- so many minutes a day; a link asks nothing else of the file
abbrev pub day_only : ℕ → Context
day_only per_day = record { per_day = per_day; built = []; main = default_calendar; tasks = [] }

unfoldable pub links_for : ℕ → ℕ → Element → LinkFate → List Link
links_for per_day row l (Err why) = []
links_for per_day row l (Ok p) = link_of (day_only per_day) p row l ∷ []

-- of some link elements of a task, and of those of some tasks from a row on
unfoldable pub links_in : ℕ → Finder → ℕ → List Element → List Link
links_in per_day find row [] = []
links_in per_day find row (l ∷ ls) = links_for per_day row l (fate_for find l) ++ links_in per_day find row ls

unfoldable pub links_from : ℕ → Finder → ℕ → List Element → List Link
links_from per_day find row [] = []
links_from per_day find row (t ∷ ts) = links_in per_day find row (all t (bytes "PredecessorLink")) ++ links_from per_day find (row + 1) ts
