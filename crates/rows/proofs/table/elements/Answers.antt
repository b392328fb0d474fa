use Rattle.definition.specs.Ascii.{bytes}
use Rattle.tree.specs.Root.{root_at, in_resources}
use Rattle.rows.specs.Turns.{picks_same}
use Rattle.rows.proofs.Listing.{first_work, first_cost}
use Rattle.rows.proofs.table.elements.Goals.{in-Tasks, in-Work, in-Cost}
use Rattle.rows.proofs.table.elements.Goals as goal

pub returns-clause-is : goal.returns-clause-is
returns-clause-is c =
    let root = c.args.root in
    elim c.match-list.branch [
      | in-Tasks w ↦ rw (w.rest-is, w.in-Tasks.is) w.kept_tasks.ensures.is
      | in-Work w ↦ rw (w.rest-is, w.in-Work.is) (first_work (root_at root) (picks_same (in_resources root (bytes "Resource")) (rw c.part-resources.ensures at w.first_which.ensures))).0
      | in-Cost w ↦ rw (w.rest-is, w.in-Cost.is) (first_cost (root_at root) (picks_same (in_resources root (bytes "Resource")) (rw c.part-resources.ensures at w.first_which-in-Cost.ensures))).0
    ]

pub returns-clause-of : goal.returns-clause-of
returns-clause-of c =
    let root = c.args.root in
    elim c.match-list.branch [
      | in-Tasks w ↦ rw w.rest-is w.kept_tasks.ensures.of
      | in-Work w ↦ rw w.rest-is (first_work (root_at root) (picks_same (in_resources root (bytes "Resource")) (rw c.part-resources.ensures at w.first_which.ensures))).1
      | in-Cost w ↦ rw w.rest-is (first_cost (root_at root) (picks_same (in_resources root (bytes "Resource")) (rw c.part-resources.ensures at w.first_which-in-Cost.ensures))).1
    ]
