-- `model_check::tables::empty_table` meets its contract. Assumes nothing.
use mathlib.Core.Path.{sym}
use Rattle.std.proofs.lemmas.Result.{OkIff-decides}
use Rattle.model_check.proofs.Tabled.{emptied, one_made}
use Rattle.model_check.proofs.tables.empty_table.Goals as goal

pub returns : goal.returns
returns c =
    one_made (emptied _ ((OkIff-decides _ _ _ c.try_from.ensures).0 (sym c.in_ok-ok.ensures.variant)) c.table_at.ensures (c.in_ok-t.was {u = tt}) c.clear.ensures)
