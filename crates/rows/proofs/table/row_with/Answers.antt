use Rattle.rows.specs.Tables.{row_in}
use Rattle.rows.proofs.table.row_with.Goals as goal

pub returns-in-Some : goal.returns-in-Some
unfolding row_in
returns-in-Some c = rw c.in-Some.is c.seek.ensures

pub returns-in-None : goal.returns-in-None
unfolding row_in
returns-in-None c = rw c.in-None.is c.scan.ensures
