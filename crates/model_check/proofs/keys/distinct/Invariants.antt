-- `model_check::keys::distinct` meets its contract. The invariant: what is left gives the same answer as the whole. Assumes nothing.
use mathlib.Core.Bool.{true}
use mathlib.Core.List.{List}
use Prim.Native.Nat.{ℕ}
use Rattle.model_check.specs.Kinds.{Item, Run}
use Rattle.model_check.specs.Keys.{Key, Keyed}
use Rattle.model_check.proofs.Scan.{Along}
use Rattle.model_check.proofs.Keyed.{repeats}
use Rattle.model_check.proofs.keys.distinct.Given as goal

abbrev pub invariant-loop-i : goal.invariant-loop-i
invariant-loop-i g l = (key : Item g.K.Records.KIND → Key) → Keyed g.K.Records.KIND g.K.Records.LEAD l.s key → (xs : List (Item g.K.Records.KIND)) (end : ℕ) → Run g.K.Records.KIND l.s l.initial.q l.i-end xs end → Along g.K.Records.KIND l.s l.i-end xs end (repeats key) true l.i l.q
