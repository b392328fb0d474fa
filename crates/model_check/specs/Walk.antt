-- The walk that decodes a model, and what it tells of the activities that it passes. Assumes nothing.
use Rattle.std.specs.Prelude.{◌≡◌, Bool, true, List, map, ℕ, ◌%◌, ◌^◌, ◌<◌, length}
use Rattle.std.specs.Prelude.{None, Option, Some}
use Rattle.definition.specs.Base.{every?, numbered}
use Rattle.definition.specs.Format.{whole, times}
use Rattle.definition.specs.Model.{Activity, Model}
use Rattle.definition.specs.Pack.{calendar, activity}
use Rattle.definition.specs.Check.{activity_right}
use Rattle.index.specs.declared.Table.{Table}
use Rattle.index.specs.Frame.{SameIn, Apart}
use Rattle.bits.specs.declared.Place.{Place}
use Rattle.bits.specs.declared.Field.{Field}
use Rattle.model.specs.Passes.{Passes}
use Rattle.model.specs.Parts.{record_of}
use Rattle.model.specs.Splits.{Stands}
use Rattle.model.specs.Sections.{Holds, Decoded, Walks, byte_at, sections_of}
use Rattle.model.specs.PerKind.{Counts}
use Rattle.model.specs.declared.Section.{Section}
use Rattle.model.specs.declared.records.Kind.TheVariants.{Activities}
use Rattle.model_check.specs.declared.walk.Walked.{Walked}
use Rattle.model_check.specs.Kinds.{Run}
use Rattle.model_check.specs.Keys.{Key}
use Rattle.model_check.specs.Tables.{Emptied, KeyTable, Put, TableFor, NamesIn}

-- ---- tables that may be missing

-- no word in common, where there are both
abbrev pub ApartFrom : Option Table → Option Table → Type 0
ApartFrom m o = (n t : Table) → m ≡ Some n → o ≡ Some t → Apart n t

-- its words stay
pub record Kept (m : Option Table) (w w' : List ℕ) : Type 0 where
  pub same : (n : Table) → m ≡ Some n → SameIn n w w'

-- ---- activities

abbrev pub id_key : Activity → Key
id_key a = (0, a.id)

-- the activity of a row at a place: whether it is right, and the place behind its record
pub record JudgedAt (s : List ℕ) (p : Place) (own : ℕ) (x : Section) (names : Option Table) (w : List ℕ) (r : Field Bool Place) : Type 0 where
  pub right : (m : Model) (end : ℕ) → Holds calendar s x m.calendars end → NamesIn s m names w → (a : Activity) → Stands (whole activity) s p a → r.value ≡ activity_right m (own, a)
  pub next : Passes (record_of true Activities) s p r.next
  pub even : r.next.bit % 8 ≡ 0

-- the id of the activity at a place is put into a table, where there is one
abbrev pub Noted : List ℕ → Place → ℕ → Option Table → List ℕ → List ℕ → Type 0
Noted s p row None w w' = w' ≡ w
Noted s p row (Some t) w w' = Put 0 s p row t w w'

-- n activities are passed over; where they stand there, whether all are right, and their ids in a table, if there is an empty one of as many rows
pub record JudgedAll (s : List ℕ) (p : Place) (n : ℕ) (x : Section) (names ids : Option Table) (w w' : List ℕ) (r : Field Bool Place) : Type 0 where
  pub passes : Passes (times n (record_of true Activities)) s p r.next
  pub kept : ApartFrom names ids → Kept names w w'
  pub right : ApartFrom names ids → (m : Model) (end : ℕ) → Holds calendar s x m.calendars end → NamesIn s m names w
      → (next : ℕ) → Run Activities s p n m.activities next → r.value ≡ every? (activity_right m) (numbered 0 m.activities)
  pub keys : length s < 2 ^ 32 → p.bit % 8 ≡ 0 → (t : Table) → ids ≡ Some t → t.rows ≡ n → Emptied t w
      → (xs : List Activity) (next : ℕ) → Run Activities s p n xs next → KeyTable 0 s (map id_key xs) t w'

-- ---- the walk

-- what it tells of a model: the names of its calendars and the ids of its activities are in tables, where there are any; whether all activities are right
pub record Looked (s : List ℕ) (m : Model) (n i : Option Table) (activities : Bool) (w : List ℕ) : Type 0 where
  pub names : NamesIn s m n w
  pub ids : TableFor 0 s (map id_key m.activities) i w
  pub right : activities ≡ every? (activity_right m) (numbered 0 m.activities)

pub record ModelWalked (s : List ℕ) (n : Counts) (w w' : List ℕ) (r : Walked) : Type 0 where
  pub walks : Walks s n r.places
  pub looked : (m : Model) → Decoded s m (sections_of n r.places) → r.places.value.activities ≡ byte_at r.places.value.activities.byte → Looked s m r.tables.names r.tables.ids r.right w'
