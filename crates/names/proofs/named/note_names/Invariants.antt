-- `names::named::note_names` meets its contract. Assumes nothing.
use Prim.Native.Nat.{◌≤◌}
use Rattle.names.proofs.Wording.{Naming}
use Rattle.names.proofs.named.note_names.Given as goal

abbrev pub invariant-loop-row : goal.invariant-loop-row
invariant-loop-row l = (l.row ≤ l.t.rows) × Naming l.out l.c l.tree l.t l.main l.row l.q l.initial.words l.words
