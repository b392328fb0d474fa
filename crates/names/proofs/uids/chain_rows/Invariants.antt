-- `names::uids::chain_rows` meets its contract. Assumes nothing.
use Prim.Native.Nat.{◌≤◌}
use Rattle.names.specs.Uids.{Chained}
use Rattle.names.proofs.uids.chain_rows.Given as goal

abbrev pub invariant-loop-row : goal.invariant-loop-row
invariant-loop-row l = (l.row ≤ l.count) × Chained l.tree l.t l.row l.initial.words l.words
