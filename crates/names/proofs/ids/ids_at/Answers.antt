-- `names::ids::ids_at` meets its contract. Assumes nothing.
use native.Mathlib.Omega.{arith}
use mathlib.Core.Path.{ap}
use Rattle.index.specs.Chains.{end_of}
use Rattle.index.specs.Law.{table_placed}
use Rattle.names.proofs.Chained.{ids_two}
use Rattle.names.proofs.ids.ids_at.Goals as goal

pub overflow_add-at : goal.overflow_add-at
overflow_add-at c =
    let p = table_placed c.args.len c.args.at c.args.rows c.in_ok-ids.ensures in
    omega (arith, ap end_of p.is, p.fits.room, c.ranges)

pub returns-in_err-ids : goal.returns-in_err-ids
returns-in_err-ids c = rw c.from_residual.ensures (rw (← c.in_err-ids.ensures) at (ids_two c.args.len c.args.at c.args.rows))

pub returns-in_err-wanted : goal.returns-in_err-wanted
returns-in_err-wanted c = rw c.from_residual-in_err-wanted.ensures (rw (← c.in_ok-ids.ensures, ← c.in_err-wanted.ensures) at (ids_two c.args.len c.args.at c.args.rows))

pub returns : goal.returns
returns c = rw (← c.in_ok-ids.ensures, ← c.in_ok-wanted.ensures) at (ids_two c.args.len c.args.at c.args.rows)
