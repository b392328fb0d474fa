use Rattle.std.proofs.Common.{◌%◌, ◌+◌, ◌^◌, ◌<◌, length}
use Rattle.std.specs.Prelude.{Some}
use Rattle.definition.specs.Base.{◌>>=◌}
use Rattle.definition.specs.Task.{row_of}
use Rattle.rows.specs.Rows.{has_uid}
use Rattle.rows.specs.Tables.{elements_left}
use Rattle.rows.proofs.Lasts.{RowIn, within}
use Rattle.rows.proofs.table.scan.Given as goal

-- the row of the last among those left, else the row so far
abbrev pub invariant-loop-n : goal.invariant-loop-n
invariant-loop-n l =
    RowIn (within (2 ^ 32)) (has_uid l.uid) (row_of (elements_left l.initial.n-iterator.iter) l.uid >>= λ n. Some (n % 2 ^ 32)) l.n-iterator.count (elements_left l.n-iterator.iter) l.found
    × (l.n-iterator.count + length (elements_left l.n-iterator.iter) < 2 ^ 64)
