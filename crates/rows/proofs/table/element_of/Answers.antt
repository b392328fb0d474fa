use Rattle.rows.specs.Rows.{found_meaning}
use Rattle.rows.proofs.table.element_of.Goals as goal

pub returns-in_err-row-clause-is : goal.returns-in_err-row-clause-is
unfolding found_meaning
returns-in_err-row-clause-is c = rw (c.from_residual.ensures, c.in_err-row.was)

pub returns-clause-is : goal.returns-clause-is
unfolding found_meaning
returns-clause-is c = rw (c.in_ok-row.was, c.part.ensures, c.place.ensures)
