-- `model_check::tables::table_distinct` meets its contract. The invariant: no key of a row that was looked at has a twin before it. Assumes nothing.
use mathlib.Core.List.{List}
use Rattle.model_check.specs.Keys.{Key}
use Rattle.model_check.specs.Tables.{KeyTable}
use Rattle.model_check.proofs.Twins.{Looked}
use Rattle.model_check.proofs.tables.table_distinct.Given as goal

abbrev pub invariant-loop-i : goal.invariant-loop-i
invariant-loop-i g l = (ks : List Key) → KeyTable g.K.Records.LEAD l.s ks l.index.table l.index.words.now → Looked ks l.i
