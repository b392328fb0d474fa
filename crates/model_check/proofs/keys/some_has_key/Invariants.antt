-- `model_check::keys::some_has_key` meets its contract. The invariant: what is left gives the same answer as the whole. Assumes nothing.
use mathlib.Core.Bool.{false}
use mathlib.Core.List.{List}
use Prim.Native.Nat.{ℕ}
use Rattle.model_check.specs.Kinds.{Item, Run}
use Rattle.model_check.specs.Keys.{Key, Keyed}
use Rattle.model_check.proofs.Scan.{Along}
use Rattle.model_check.proofs.Keyed.{hits}
use Rattle.model_check.proofs.keys.some_has_key.Given as goal

abbrev pub invariant-loop : goal.invariant-loop
invariant-loop g l = (key : Item g.K.Records.KIND → Key) → Keyed g.K.Records.KIND g.K.Records.LEAD l.s key → (xs : List (Item g.K.Records.KIND)) (end : ℕ) → Run g.K.Records.KIND l.s l.initial.q l.count xs end → Along g.K.Records.KIND l.s l.count xs end (hits key l.key.row l.key.name.now) false l.counter l.q
