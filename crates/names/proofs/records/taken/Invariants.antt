-- `names::records::taken` meets its contract. Assumes nothing.
use mathlib.Core.Bool.{false}
use Prim.Native.Nat.{◌≤◌}
use Rattle.definition.specs.Base.{same}
use Rattle.definition.specs.Format.{times}
use Rattle.model.specs.Passes.{Passes}
use Rattle.model.specs.Parts.{record_of}
use Rattle.pack.specs.Value.{starred_by}
use Rattle.names.specs.Seen.{Left}
use Rattle.names.proofs.records.taken.Given as goal

abbrev pub invariant-loop : goal.invariant-loop
invariant-loop l = (l.counter ≤ l.count) × Passes (times l.counter (record_of false l.kind)) l.out l.initial.q l.q × Left l.kind l.out l.initial.q l.count (same (starred_by l.wanted l.stars)) l.counter
