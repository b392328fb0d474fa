-- The table of the kept tasks in the words. Assumes nothing.
use Rattle.std.specs.Prelude.{ℕ, ◌≤◌, ◌≡◌, List, length}
use Rattle.index.specs.declared.Table.{Table}
use Rattle.std.specs.Prelude.{Option}
use Rattle.definition.specs.Text.{Text}
use Rattle.definition.specs.Task.{kept_tasks, row_of}
use Rattle.index.specs.Chains.{end_in}
use Rattle.tree.specs.Root.{root_at}
use Rattle.tree.specs.declared.root.Root.{Root}
use Rattle.links.specs.Fates.{task_in}

-- the words give the row of each kept task, and the table ends in them
pub record Tasked (root : Root) (w : List ℕ) (tasks : Option Table) : Type 0 where
  pub finds : (u : Text) → task_in root w tasks u ≡ row_of (kept_tasks (root_at root)) u
  pub ends : end_in tasks ≤ length w
