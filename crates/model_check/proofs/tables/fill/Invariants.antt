-- `model_check::tables::fill` meets its contract. The invariant: the rows so far are in the table. Assumes nothing.
use mathlib.Core.Path.{◌≡◌}
use mathlib.Core.List.{List}
use Prim.Native.Nat.{ℕ, ◌%◌, ◌^◌, ◌≤◌, ◌<◌}
use lib.ListN.{length}
use Rattle.model_check.specs.Kinds.{Item, Run}
use Rattle.model_check.specs.Keys.{Key, Keyed}
use Rattle.model_check.specs.Tables.{Emptied}
use Rattle.model_check.proofs.Tabled.{Filling}
use Rattle.model_check.proofs.tables.fill.Given as goal

abbrev pub invariant-loop-i : goal.invariant-loop-i
invariant-loop-i g l =
    (l.i ≤ l.t.rows) × (length l.words ≡ length l.initial.words) × (l.q.bit % 8 ≡ 0)
    × (length l.s < 2 ^ 32 → Emptied l.t l.initial.words → (key : Item g.K.Records.KIND → Key) → Keyed g.K.Records.KIND g.K.Records.LEAD l.s key → (xs : List (Item g.K.Records.KIND)) (end : ℕ) → Run g.K.Records.KIND l.s l.initial.q l.t.rows xs end → Filling g.K.Records.KIND g.K.Records.LEAD l.s key xs end l.t l.words l.q l.i)
