-- `model_check::walk::judge_activities` meets its contract. The invariant: i activities are passed over and in the table, those before are all right
-- or not, and the place is the next record's. Assumes nothing.
use mathlib.Core.Path.{◌≡◌}
use mathlib.Core.Bool.{true}
use mathlib.Core.List.{List}
use Prim.Native.Nat.{ℕ, ◌%◌, ◌^◌, ◌≤◌, ◌<◌}
use lib.ListN.{length}
use Rattle.std.specs.Prelude.{Some}
use Rattle.index.specs.declared.Table.{Table}
use Rattle.definition.specs.Format.{times}
use Rattle.definition.specs.Model.{Activity, Model}
use Rattle.definition.specs.Pack.{calendar}
use Rattle.model.specs.Passes.{Passes}
use Rattle.model.specs.Parts.{record_of}
use Rattle.model.specs.Sections.{Holds}
use Rattle.model.specs.declared.records.Kind.TheVariants.{Activities}
use Rattle.model_check.specs.Kinds.{Run}
use Rattle.model_check.specs.Tables.{Emptied, NamesIn}
use Rattle.model_check.specs.Walk.{id_key, ApartFrom, Kept}
use Rattle.model_check.proofs.Tabled.{Filling}
use Rattle.model_check.proofs.Walking.{Judging}
use Rattle.model_check.proofs.walk.judge_activities.Given as goal

abbrev pub invariant-loop-i : goal.invariant-loop-i
invariant-loop-i l =
    (l.i ≤ l.count) × (length l.words ≡ length l.initial.words) × Passes (times l.i (record_of true Activities)) l.s l.initial.q l.q × (l.initial.q.bit % 8 ≡ 0 → l.q.bit % 8 ≡ 0)
    × (ApartFrom l.tables.names l.tables.ids → Kept l.tables.names l.initial.words l.words)
    × (ApartFrom l.tables.names l.tables.ids → (m : Model) (end : ℕ) → Holds calendar l.s l.calendars m.calendars end → NamesIn l.s m l.tables.names l.initial.words → (next : ℕ) → Run Activities l.s l.initial.q l.count m.activities next → Judging l.s l.count m next l.right l.i l.q)
    × (length l.s < 2 ^ 32 → l.initial.q.bit % 8 ≡ 0 → (t : Table) → l.tables.ids ≡ Some t → t.rows ≡ l.count → Emptied t l.initial.words → (xs : List Activity) (next : ℕ) → Run Activities l.s l.initial.q l.count xs next → Filling Activities 0 l.s id_key xs next t l.words l.q l.i)
