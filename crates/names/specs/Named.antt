-- The name of a calendar by its UID, as words say it. Assumes nothing: these are definitions.
use Rattle.std.specs.Prelude.{if◌then◌else◌, ℕ, zero, suc, ◌+◌, ◌-◌, ◌*◌, ◌<◌, ◌≡◌, false, List, [], eqb, length, get_or, set}
use Rattle.std.specs.Prelude.{Option, Some, None}
use Rattle.definition.specs.Base.{◌>>=◌, ◌or◌, same}
use Rattle.definition.specs.Calendar.{name_of, elapsed_name}
use Rattle.definition.specs.Format.{times}
use Rattle.definition.specs.Task.{Context, unless_main}
use Rattle.definition.specs.Text.{Text}
use Rattle.definition.specs.Tree.{Element}
use Rattle.index.specs.declared.Table.{Table}
use Rattle.index.specs.Chains.{place_of, end_of}
use Rattle.bits.specs.declared.Place.{Place}
use Rattle.model.specs.Answers.{read_at}
use Rattle.model.specs.Parts.{raw, record_of}
use Rattle.model.specs.Passes.{Passes}
use Rattle.model.specs.declared.records.Kind.TheVariants as kind
use Rattle.pack.specs.Value.{starred_by}
use Rattle.rows.specs.Rows.{main_in}
use Rattle.rows.specs.Tables.{sought_in}
use Rattle.tree.specs.Place.{element_at, meaning}
use Rattle.names.specs.declared.uids.CalendarTable.{CalendarTable}
use Rattle.names.specs.declared.named.Main.{Main}
use Rattle.names.specs.declared.named.CalendarName.{CalendarName}
use Rattle.names.specs.Texts.{text_at}
use Rattle.names.specs.Uids.{names_end, how_many, made_in, of_row, Stays, Uids, end_from}
use Rattle.names.specs.Context.{section_row, wanted_name, stars_by, stars_in, context_at}

-- ---- a name as a word

-- 0 where it is the main calendar's, else how many `*` it has behind its text, plus 1
unfoldable pub name_word : Text → Text → ℕ → ℕ
name_word main text stars = if same (starred_by text stars) main then 0 else suc stars

-- what such a word says beside the text
unfoldable pub name_by : Text → ℕ → Option Text
name_by text zero = None
name_by text (suc stars) = Some (starred_by text stars)

-- ---- a calendar's name

-- its wanted name with so many `*` behind it
abbrev pub calendar_name : CalendarName → Text
calendar_name x = starred_by (wanted_name (meaning x.calendar)) x.stars

-- ---- the words of a table

-- where the word of a row's name stands; the last one is the elapsed calendar's
abbrev pub name_at : Table → ℕ → ℕ
name_at t row = t.at + (3 * t.rows + row)

-- the name of a UID, unless it is the main calendar's
abbrev pub named_by : Context → Text → Option Text
named_by x u = name_of x.built u >>= unless_main x

abbrev pub name_of_row : Text → List ℕ → Table → Option ℕ → Option Text
name_of_row s w t row = row >>= λ r. name_by (wanted_name (element_at s (place_of w t r))) (get_or w (name_at t r) 0)

-- the same, as words say it where there is a table
unfoldable pub named_in : Context → Text → List ℕ → Option Table → Text → Option Text
named_in x s w None u = named_by x u
named_in x s w (Some t) u = name_of_row s w t (sought_in s w t u)

unfoldable pub elapsed_in : Context → List ℕ → Option Table → Option Text
elapsed_in x w None = unless_main x elapsed_name
elapsed_in x w (Some t) = name_by elapsed_name (get_or w (name_at t t.rows) 0)

-- ---- a table of all calendars

-- with a word for each name
pub record Calendars (d : List ℕ) (c : Place) (s : Text) (root : Element) (t : Table) (w : List ℕ) : Type 0 where
  pub uids : Uids s root t w
  pub names : (r : ℕ) → r < how_many root → get_or w (name_at t r) 0 ≡ name_word (context_at d c root).main.name (wanted_name (of_row root r)) (stars_in d c root (how_many root - suc r) (of_row root r))
  pub elapsed : get_or w (name_at t t.rows) 0 ≡ name_word (context_at d c root).main.name elapsed_name 0

abbrev pub CalendarsIn : List ℕ → Place → Text → Element → Option Table → List ℕ → List ℕ → Type 0
CalendarsIn d c s root None w w' = w' ≡ w
CalendarsIn d c s root (Some t) w w' = Calendars d c s root t w' × Stays t.at (names_end t) w w'

pub record Makes (d : List ℕ) (c : Place) (s : Text) (root : Element) (at : ℕ) (w w' : List ℕ) (r : CalendarTable) : Type 0 where
  pub made : r.table ≡ made_in s root (length w) at
  pub end : r.end ≡ end_from at r.table
  pub words : CalendarsIn d c s root r.table w w'

-- ---- while it is made

pub record MainOf (d : List ℕ) (c : Place) (root : Element) (m : Main) : Type 0 where
  pub calendar : Element
  pub there : main_in root ≡ Some (m.row, calendar)
  pub name : m.name.now ≡ wanted_name calendar
  pub stars : m.stars ≡ stars_in d c root m.row calendar

-- its name
abbrev pub main_text : Main → Text
main_text m = starred_by m.name.now m.stars

-- the element of a row, counted from the first calendar
abbrev pub nth_in : Text → Table → List ℕ → ℕ → Element
nth_in s t w row = element_at s (place_of w t (t.rows - suc row))

-- its word by the name in its record
abbrev pub word_by : Main → Text → Element → ℕ
word_by m name e = name_word (main_text m) (wanted_name e) (stars_by name e)

-- one row: its record is that at c for the main calendar, else that at q; r is where the next one is
pub record NotesName (d : List ℕ) (c q : Place) (s : Text) (t : Table) (row : ℕ) (m : Main) (w w' : List ℕ) (r : Place) : Type 0 where
  pub word : w' ≡ set w (name_at t (t.rows - suc row)) (word_by m ((read_at raw d (if eqb row m.row then c else q)).0 or []) (nth_in s t w row))
  pub next : (k : ℕ) → Passes (times k (record_of false kind.Calendars)) d c q → Passes (times (if eqb row m.row then k else k + 1) (record_of false kind.Calendars)) d c r

-- the first n rows
pub record NamesNoted (d : List ℕ) (c : Place) (s : Text) (t : Table) (m : Main) (n : ℕ) (w w' : List ℕ) : Type 0 where
  pub names : (row : ℕ) → row < n → get_or w' (name_at t (t.rows - suc row)) 0 ≡ word_by m (text_at kind.Calendars d c (section_row m.row row)) (nth_in s t w row)
  pub stays : Stays (end_of t) (names_end t) w w'
