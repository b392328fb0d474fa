use Rattle.std.proofs.Common.{◌≡◌, List, ℕ}
use Rattle.tree.specs.Root.{root_at}
use Rattle.rows.specs.Tables.{elements_left, ElementsOf, Ripe}
use Rattle.rows.proofs.Filling.{Filling}
use Rattle.rows.proofs.table.index_rows.Given as goal

-- the rows so far are in the table
abbrev pub invariant-loop-row : goal.invariant-loop-row
invariant-loop-row l =
    ((w : List ℕ) → Ripe l.root.tree.now (root_at l.root) l.fn.list l.t w → Filling l.root.tree.now (root_at l.root) l.fn.list l.t l.initial.words 0 (elements_left l.initial.row-iterator.b) l.initial.words
    → Filling l.root.tree.now (root_at l.root) l.fn.list l.t l.initial.words l.row-iterator.a.start (elements_left l.row-iterator.b) l.words)
    × ElementsOf l.row-iterator.b l.root.tree.now
    × (l.row-iterator.a.end ≡ l.t.rows)
