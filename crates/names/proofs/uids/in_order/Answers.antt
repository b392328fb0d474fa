use Rattle.rows.specs.Rows.{calendar_meaning}
use Rattle.names.proofs.uids.in_order.Goals as goal

pub returns-in_err-r-clause-is : goal.returns-in_err-r-clause-is
unfolding calendar_meaning
returns-in_err-r-clause-is c = rw (c.from_residual.ensures, c.in_err-r.was)

pub returns-clause-is : goal.returns-clause-is
unfolding calendar_meaning
returns-clause-is c = rw (c.in_ok-r.was, c.order_row.ensures, c.part.ensures, c.place.ensures)
