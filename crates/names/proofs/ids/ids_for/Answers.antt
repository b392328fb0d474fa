use Rattle.std.proofs.Common.{arith, rules}
use Rattle.names.proofs.Chained.{tables_inside, tables_long, tables_refused, tables_ready}
use Rattle.names.proofs.ids.ids_for.Goals as goal
use Rattle.names.proofs.ids.ids_for.Goals.{then-p-ne0-via-then-p-ne0, then-p-ne0-via-else-p-ne0+then-is_err}

pub returns-then-p-ne0 : goal.returns-then-p-ne0
returns-then-p-ne0 c =
    elim c.then-p-ne0.branch [
      | then-p-ne0-via-then-p-ne0 w ↦ tables_inside _ _ _ _ _ w.if-p-ne0.true
      | then-p-ne0-via-else-p-ne0+then-is_err w ↦ tables_long _ _ _ _ _ (search rules)
    ]

pub returns-in_err-ids : goal.returns-in_err-ids
returns-in_err-ids c = rw c.from_residual.ensures (tables_refused _ _ _ _ _ (omega arith) (search rules) c.ids_at.ensures c.in_err-ids.was)

pub returns : goal.returns
returns c = tables_ready _ _ _ _ _ (omega arith) (search rules) c.ids_at.ensures c.in_ok-ids.was c.clear.ensures
