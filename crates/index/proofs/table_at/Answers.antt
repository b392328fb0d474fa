-- `index::table_at` meets its contract. Assumes nothing.
use Rattle.index.specs.Steps.{table_none, table_short, table_is}
use native.Mathlib.Omega.{arith}
use Rattle.index.proofs.table_at.Goals as goal
use Rattle.index.proofs.table_at.Goals.{then-rows-eq0-via-then-rows-eq0, then-rows-eq0-via-else-rows-eq0+then-saturating_sub-rows}

pub returns-then-rows-eq0 : goal.returns-then-rows-eq0
returns-then-rows-eq0 c =
    let a = c.args in
    elim c.then-rows-eq0.branch [
      | then-rows-eq0-via-then-rows-eq0 w ↦ table_none a.len a.at a.rows w.if-rows-eq0.true
      | then-rows-eq0-via-else-rows-eq0+then-saturating_sub-rows w ↦
          table_short a.len a.at a.rows (omega arith) (omega (arith, w.saturating_sub.ensures, w.if-saturating_sub-rows.true))
    ]

pub returns : goal.returns
returns c =
    let a = c.args in
    table_is a.len a.at a.rows (omega arith) (omega (arith, c.saturating_sub.ensures, c.if-saturating_sub-rows.false))
