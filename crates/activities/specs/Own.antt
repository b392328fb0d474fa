-- The section's own words, with the tables of ids behind the columns of parents: what they hold. Assumes nothing: these are definitions.
use Rattle.std.specs.Prelude.{ℕ, ◌^◌, ◌≤◌, ◌<◌, ◌≡◌, Bool, true, List, length}
use Rattle.index.specs.declared.Table.{Table}
use Rattle.std.specs.Prelude.{Some}
use Rattle.std.specs.Prelude.{Option}
use Rattle.definition.specs.Calendar.{free}
use Rattle.definition.specs.Text.{Text}
use Rattle.definition.specs.Task.{per_day_of}
use Rattle.laws.specs.Bits.{Bytes}
use Rattle.bits.specs.Places.{inside}
use Rattle.bits.specs.declared.Place.{Place}
use Rattle.tree.specs.Root.{root_at}
use Rattle.tree.specs.declared.element.Element.{Element}
use Rattle.names.specs.Context.{context_at}
use Rattle.names.specs.Naming.{Finds}
use Rattle.index.specs.Chains.{end_in}
use Rattle.model.specs.declared.records.Kind.TheVariants.{Activities}
use Rattle.names.specs.Ids.{noted_by}
use Rattle.names.specs.Lent.{NotedIn}
use Rattle.names.specs.Sought.{end_names}
use Rattle.names.specs.declared.ids.Ids.{Ids}
use Rattle.pack.specs.Value.{starred_by}
use Rattle.activities.specs.Parents.{end_of, Room, Behind, Ready, noted}
use Rattle.activities.specs.declared.own.Own.{Own}
use Rattle.activities.specs.declared.own.Section.{Section}
use Rattle.activities.specs.declared.parents.Columns.{Columns}

-- tables stand behind the columns; each record begins at a whole byte, and 32 bits hold where
pub record Open (i : Ids) (columns : Columns) (start : Place) (len : ℕ) : Type 0 where
  pub some : 0 < columns.rows
  pub behind : end_of columns ≤ i.ids.at
  pub behind_wanted : end_of columns ≤ i.wanted.at
  pub whole : start.bit ≡ 0
  pub short : len < 2 ^ 32

abbrev pub IdsOpen : Option Ids → Columns → Place → ℕ → Type 0
IdsOpen ids columns start len = (i : Ids) → ids ≡ Some i → Open i columns start len

-- all words of the section, before its first row
pub record OwnRoom (own : Own) (tasks : Option Table) (d : List ℕ) (start : Place) (w : List ℕ) (bytes : ℕ) : Type 0 where
  pub room : Room own.columns (length w) bytes
  pub behind : Behind own.columns (end_in tasks)
  pub behind_names : Behind own.columns (end_names own.calendars)
  pub opened : IdsOpen own.ids own.columns start (length d)
  pub ids : NotedIn Activities own.ids d start w 0

-- a section before its first row
pub record SectionRoom (x : Section) (d : List ℕ) (w : List ℕ) : Type 0 where
  pub room : OwnRoom x.own x.tasks d x.start w (length x.root.tree.now)
  pub finds : Finds (context_at d x.calendars (root_at x.root)) x.root.tree.now x.own.calendars w
  pub day : x.per_day ≡ per_day_of (root_at x.root)
  pub bytes : Bytes x.root.tree.now

-- the next row can be put at p
pub record RowReady (x : Section) (task : Element) (row : ℕ) (p : Place) (d w : List ℕ) : Type 0 where
  pub parents : Ready x.root.tree.now (root_at x.root) x.own.columns row task w
  pub day : x.per_day ≡ per_day_of (root_at x.root)
  pub finds : Finds (context_at d x.calendars (root_at x.root)) x.root.tree.now x.own.calendars w
  pub opened : IdsOpen x.own.ids x.own.columns x.start (length d)
  pub ids : inside (length d) p ≡ true → NotedIn Activities x.own.ids d x.start w row

-- the words of a row: its place and parent, and its id, which is free among some where the record fits
pub record RowNoted (own : Own) (row at : ℕ) (parent : Option ℕ) (u : Text) (byte : ℕ) (taken : List Text) (fits : Bool) (w w' : List ℕ) : Type 0 where
  pub stars : ℕ
  pub is : w' ≡ noted_by (noted own.columns row at parent w) own.ids row u stars byte
  pub free_is : fits ≡ true → starred_by u stars ≡ free taken u
