-- Calendars built one after another behind each other in a buffer; the main one turned to the front. Assumes nothing.
use Rattle.std.specs.Prelude.{if◌then◌else◌, ◌≡◌, ℕ, suc, ◌%◌, ◌≤◌, true, List, [], ◌∷◌, ◌++◌, length, take, drop}
use Rattle.model.specs.declared.parts.CalendarPlaces.{CalendarPlaces}
use Rattle.names.specs.declared.ids.Ids.{Ids}
use Rattle.std.specs.Prelude.{None, Option}
use Rattle.std.specs.Prelude.{Some}
use Rattle.std.specs.Prelude.{slice_get}
use Rattle.definition.specs.Base.{◌>>=◌, ◌or◌, some?}
use Rattle.definition.specs.Text.{Text}
use Rattle.definition.specs.Tree.{Element}
use Rattle.definition.specs.Format.{times, whole}
use Rattle.definition.specs.Model.{Calendar}
use Rattle.definition.specs.Pack.{calendar}
use Rattle.definition.specs.Refusal.{most_elements}
use Rattle.definition.specs.Calendar.{base_of, with_uid, build, built_calendars, default_calendar, elapsed_calendar}
use Rattle.definition.specs.Task.{kept_tasks, is_elapsed}
use Rattle.laws.specs.Each.{Each}
use Rattle.laws.specs.FitRecords.{Short, FitsCalendarBy}
use Rattle.laws.specs.FitTrees.{Small}
use Rattle.laws.specs.FitNames.{calendars_in}
use Rattle.bits.specs.Clear.{cleared}
use Rattle.bits.specs.Places.{inside}
use Rattle.bits.specs.Steps.{Puts}
use Rattle.bits.specs.declared.Place.{Place}
use Rattle.model.specs.declared.records.Kind.TheVariants.{Calendars}
use Rattle.names.specs.Lent.{OpenIn, NotedIn, Behind, Before}
use Rattle.names.specs.Sought.{end_names, FindsUids}
use Rattle.pack.specs.declared.record.Records.{Records}
use Rattle.tree.specs.Root.{root_at}
use Rattle.tree.specs.declared.element.Element.{Element as Of}
use Rattle.rows.specs.Rows.{in_order, main_in}
use Rattle.calendars.specs.declared.built.Section.{Section}
use Rattle.calendars.specs.Base.{BaseIs}

-- calendars stand from a place on, one after another, up to q; so many
pub record Stand (cs : List Calendar) (d₀ : List ℕ) (start : Place) (d : List ℕ) (r : Records) : Type 0 where
  pub puts : Puts (times (length cs) (whole calendar)) cs d₀ start d r.next
  pub counts : r.count ≡ length cs

-- those of some elements
abbrev pub built_of : List Element → List Calendar
built_of es = calendars_in (build [] es)

-- ---- the base of one

-- that of a row, if it is built, else the default one
abbrev pub row_or : List Calendar → ℕ → Calendar
row_or cs row = slice_get cs row or default_calendar

abbrev pub found_or : List Calendar → Option (ℕ × Of) → Calendar
found_or cs (Some (row, x)) = row_or cs row
found_or cs None = default_calendar

-- a base that stands in the buffer before the place behind all, where the names so far are noted
pub record Finds (pick : List Calendar → Calendar) (m : Option Ids) (start : Place) (count : ℕ) (d w : List ℕ) (b : Option CalendarPlaces) : Type 0 where
  pub finds : (d₀ : List ℕ) (cs : List Calendar) (q : Place) → NotedIn Calendars m d start w count → Each (FitsCalendarBy Short) cs → Stand cs d₀ start d record { count = count; next = q } → inside (length d) q ≡ true → BaseIs b d q (pick cs)

abbrev pub AtRow : ℕ → Option Ids → Place → ℕ → List ℕ → List ℕ → Option CalendarPlaces → Type 0
AtRow row = Finds (λ cs. row_or cs row)

abbrev pub BaseFound : Option (ℕ × Of) → Option Ids → Place → ℕ → List ℕ → List ℕ → Option CalendarPlaces → Type 0
BaseFound found = Finds (λ cs. found_or cs found)

abbrev pub base_in : List Element → Element → Calendar
base_in done e = (base_of e >>= λ u. with_uid u (build [] done)) or default_calendar

pub record BaseIn (s : Text) (root e : Element) (t : Section) (start : Place) (count : ℕ) (d w : List ℕ) (b : Option CalendarPlaces) : Type 0 where
  pub finds : (d₀ : List ℕ) (done todo : List Element) (q : Place) → in_order root ≡ done ++ todo → FindsUids s root t.uids w → NotedIn Calendars t.ids d start w count
      → Each (FitsCalendarBy Short) (built_of done) → Stand (built_of done) d₀ start d record { count = count; next = q } → inside (length d) q ≡ true → BaseIs b d q (base_in done e)

abbrev pub BaseOf : Section → Element → ℕ → List ℕ → List ℕ → Option CalendarPlaces → Type 0
BaseOf t e = BaseIn t.root.tree.now (root_at t.root) e t t.start

-- ---- the words

-- the tables stand one behind the other, before the words that are free
pub record Laid (t : Section) : Type 0 where
  pub uids : end_names t.uids ≤ t.from
  pub behind : Behind (end_names t.uids) t.ids
  pub before : Before t.ids t.from

-- they find each UID, and those so far are noted where they fitted
pub record Held (s : Text) (root : Element) (t : Section) (start : Place) (d w : List ℕ) (r : Records) : Type 0 where
  pub found : FindsUids s root t.uids w
  pub opened : OpenIn t.ids start (length d)
  pub noted : inside (length d) r.next ≡ true → NotedIn Calendars t.ids d start w r.count

-- the words from a place on
abbrev pub From : ℕ → Section → Type 0
From at t = (at ≤ t.from) × Behind at t.ids

abbrev pub none_yet : Place → Records
none_yet start = record { count = 0; next = start }

pub record Begins (s : Text) (root : Element) (d : List ℕ) (start : Place) (at : ℕ) (w w' : List ℕ) (t : Section) : Type 0 where
  pub laid : Laid t
  pub held : Held s root t start d w' (none_yet start)
  pub from : From at t
  pub keeps : cleared at w' ≡ cleared at w

-- ---- one after another

-- elements were built behind those that were, wherever these were begun
pub record Adds (s : Text) (root : Element) (es : List Element) (t : Section) (start : Place) (d w : List ℕ) (r : Records) (d' w' : List ℕ) (r' : Records) : Type 0 where
  pub adds : Small root → length (in_order root) ≤ most_elements → Laid t → (d₀ : List ℕ) (done todo : List Element) → in_order root ≡ done ++ (es ++ todo)
      → Held s root t start d w r → Stand (built_of done) d₀ start d r → Stand (built_of (done ++ es)) d₀ start d' r' × Held s root t start d' w' r'
  pub keeps : (at : ℕ) → From at t → cleared at w' ≡ cleared at w

-- all of them
pub record AddsAll (s : Text) (root : Element) (t : Section) (start : Place) (d w d' w' : List ℕ) (r : Records) : Type 0 where
  pub adds : Small root → length (in_order root) ≤ most_elements → Laid t → Held s root t start d w (none_yet start) → Stand (built_of (in_order root)) d start d' r
  pub keeps : (at : ℕ) → From at t → cleared at w' ≡ cleared at w

abbrev pub AddsOne : Section → Element → List ℕ → List ℕ → Records → List ℕ → List ℕ → Records → Type 0
AddsOne t e = Adds t.root.tree.now (root_at t.root) (e ∷ []) t t.start

abbrev pub AddsEach : Section → List ℕ → List ℕ → List ℕ → List ℕ → Records → Type 0
AddsEach t = AddsAll t.root.tree.now (root_at t.root) t t.start

-- the default one where there is none
abbrev pub or_default : List Calendar → List Calendar
or_default [] = default_calendar ∷ []
or_default (c ∷ cs) = c ∷ cs

pub record AddsDefault (d : List ℕ) (r : Records) (d' : List ℕ) (r' : Records) : Type 0 where
  pub adds : (d₀ : List ℕ) (start : Place) (cs : List Calendar) → Stand cs d₀ start d r → Stand (or_default cs) d₀ start d' r'

pub record PutsBuilt (root : Element) (d : List ℕ) (p : Place) (d' : List ℕ) (r : Records) : Type 0 where
  pub stand : Small root → length (in_order root) ≤ most_elements → Stand (or_default (calendars_in (built_calendars root))) d p d' r

-- ---- the main one to the front

abbrev pub turned : List Calendar → ℕ → Calendar → List Calendar
turned cs row c = c ∷ (take row cs ++ drop (suc row) cs)

pub record Turns (row : ℕ) (start : Place) (d d' : List ℕ) : Type 0 where
  pub turns : start.bit % 8 ≡ 0 → (d₀ : List ℕ) (cs : List Calendar) (c : Calendar) (r : Records) → length cs ≤ 5000000 → Each (FitsCalendarBy Short) cs → slice_get cs row ≡ Some c → Stand cs d₀ start d r
      → Stand (turned cs row c) d₀ start d' r

unfoldable pub TurnsBy : Option (ℕ × Element) → Place → List ℕ → List ℕ → Type 0
TurnsBy (Some (row, e)) start d d' = Turns row start d d'
TurnsBy None start d d' = d' ≡ d

abbrev pub TurnsMain : Element → Place → List ℕ → List ℕ → Type 0
TurnsMain root = TurnsBy (main_in root)

-- ---- the elapsed one

abbrev pub elapsed_in : Element → List Calendar
elapsed_in root = if some? is_elapsed (kept_tasks root) then elapsed_calendar ∷ [] else []

pub record AddsElapsed (root : Element) (d : List ℕ) (r : Records) (d' : List ℕ) (r' : Records) : Type 0 where
  pub adds : (d₀ : List ℕ) (start : Place) (cs : List Calendar) → suc (length cs) ≤ 4294967295 → Stand cs d₀ start d r → Stand (cs ++ elapsed_in root) d₀ start d' r'
