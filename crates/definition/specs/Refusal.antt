-- What each call gives. Document 01: it returns a number alone, or its result; lent outputs are all zeros on a refusal, as is the part behind a
-- result. The lowest number that applies is given, and only then:
-- 1 tree breaks the layout; 2 name or text not UTF-8; 3 over 5,000,000 elements; 4 root not `Project`, or none; 5 number too long; 6 model
-- does not decode; 7 the check's list is broken; 8 value asked outside its range; 9 result longer than its buffer, or rows or
-- work slice below what the outline needs. Assumes nothing.
use Rattle.std.specs.Prelude.{if◌then◌else◌, ℕ, ◌-◌, ◌*◌, ◌/◌, Bool, true, false, ◌&&◌, ◌||◌, not, length, replicate, leb, ltb, ℤ, pos, negsuc}
use Rattle.definition.specs.declared.Unread.TheVariants.{Absent, Long}
use Rattle.std.specs.Prelude.{Err, Ok}
use mathlib.Core.List.{List, [], ◌∷◌, ◌++◌, flat_map}
use Rattle.std.specs.Prelude.{Option, Some, None}
use Rattle.std.specs.Prelude.{slice_get}
use Rattle.definition.specs.Base.{some?, every?, same}
use Rattle.definition.specs.Ascii.{bytes}
use Rattle.definition.specs.Text.{Text, is_utf8, trim}
use Rattle.definition.specs.Number.{Reading, number_of}
use Rattle.definition.specs.Duration.{duration_of, duration_text, most_minutes}
use Rattle.definition.specs.Time.{time_text, most_time}
use Rattle.definition.specs.Date.{Date, from_days}
use Rattle.definition.specs.Tree.{Rec, records, layout, below_root, element}
use Rattle.definition.specs.Model.{Model, Calendar}
use Rattle.definition.specs.Read.{model_of}
use Rattle.definition.specs.Pack.{encode, decode}
use Rattle.definition.specs.Check.{keeps_list}
use Rattle.definition.specs.Outline.{outline}
use Rattle.definition.specs.DaySheet.{day_sheet}

-- ---- an answer, and what it leaves

pub data Answer : Type 0 where
  refused : ℕ → Answer
  gives : List ℕ → Answer

-- the number that a call returns; what a lent output of so many places holds then; how many of them are the result's
abbrev pub result : Answer → ℕ
result (refused n) = n
result (gives l) = 0

abbrev pub left : ℕ → Answer → List ℕ
left room (refused n) = replicate room 0
left room (gives l) = l ++ replicate (room - length l) 0

abbrev pub written : Answer → ℕ
written (refused n) = 0
written (gives l) = length l

-- a result in so much room
unfoldable pub in_room : ℕ → List ℕ → Answer
in_room room l = if leb (length l) room then gives l else refused 9

-- the text of a value up to the most, in so much room
unfoldable pub ranged : ℕ → (ℕ → Text) → ℕ → ℕ → Answer
ranged most text n room = if leb n most then in_room room (text n) else refused 8

-- ---- trees

abbrev pub most_elements : ℕ
most_elements = 5000000

-- 2
unfoldable pub utf8? : Rec → Bool
utf8? r = is_utf8 r.name && is_utf8 r.text

-- 4
unfoldable pub project? : List Rec → Bool
project? [] = false
project? (root ∷ rs) = same root.name (bytes "Project")

-- 5
unfoldable pub long? : {A : Type 0} → Reading A → Bool
long? (Err Absent) = false
long? (Err Long) = true
long? (Ok x) = false

abbrev pub number_names : List Text
number_names =
    bytes "MinutesPerDay" ∷ bytes "PhysicalPercentComplete" ∷ bytes "StandardRate" ∷ bytes "MaxUnits" ∷ bytes "Units" ∷ bytes "Cost" ∷
    bytes "ActualCost" ∷ bytes "RemainingCost" ∷ []

abbrev pub duration_names : List Text
duration_names = bytes "Duration" ∷ bytes "RemainingDuration" ∷ bytes "Work" ∷ bytes "ActualWork" ∷ bytes "RemainingWork" ∷ []

-- an element of a name has a number too long as its text, or as a piece of it
unfoldable pub long_in : Text → Text → Bool
long_in name text =
    if some? (same name) number_names then long? (number_of (trim text)) else
    if some? (same name) duration_names then long? (duration_of text) else false

unfoldable pub too_long : Rec → Bool
too_long r = long_in r.name r.text

-- the lowest of 1 to 5 that applies to a tree, 0 where none does
unfoldable pub tree_refusal : Text → ℕ
tree_refusal s =
    if not (layout s) then 1 else
    if not (every? utf8? (records s)) then 2 else
    if ltb most_elements (length (records s)) then 3 else
    if not (project? (records s)) then 4 else
    if some? too_long (below_root (records s)) then 5 else 0

abbrev pub unless : ℕ → Answer → Answer
unless n a = if ltb 0 n then refused n else a

-- ---- the calls

-- the model of a tree
unfoldable pub read_answer : Text → ℕ → Answer
read_answer tree room = unless (tree_refusal tree) (in_room room (encode (model_of (element (records tree)))))

-- the number that the check of a model's bytes returns
abbrev pub check_of : Option Model → ℕ
check_of None = 6
check_of (Some m) = if keeps_list m then 0 else 7

unfoldable pub check_answer : Text → ℕ
check_answer s = check_of (decode s)

-- the outline of a model's bytes as words, with so many words of rows and of work
abbrev pub row_words : List (ℕ × ℕ) → List ℕ
row_words = flat_map (λ (x : ℕ × ℕ). x.0 ∷ x.1 ∷ [])

abbrev pub outline_by : Option Model → ℕ → ℕ → Answer
outline_by None rows work = refused 6
outline_by (Some m) rows work =
    if ltb rows (2 * length m.activities) || ltb work (4 * length m.activities) then refused 9 else gives (row_words (outline m))

-- how many rows
abbrev pub row_count : Answer → ℕ
row_count a = written a / 2

unfoldable pub outline_answer : Text → ℕ → ℕ → Answer
outline_answer s rows work = outline_by (decode s) rows work

-- the sheet of a date in the calendar of a row
abbrev pub sheet_on : Option Calendar → Option Date → ℕ → Answer
sheet_on None d room = refused 8
sheet_on (Some c) None room = refused 8
sheet_on (Some c) (Some d) room = in_room room (day_sheet c d)

abbrev pub sheet_by : Option Model → ℕ → ℤ → ℕ → Answer
sheet_by None row day room = refused 6
sheet_by (Some m) row day room = sheet_on (slice_get m.calendars row) (from_days day) room

unfoldable pub day_sheet_answer : Text → ℕ → ℤ → ℕ → Answer
day_sheet_answer s row day room = sheet_by (decode s) row day room

-- the text of minutes from 0 to the most that duration_of gives, and of a time up to 1440
unfoldable pub duration_answer : ℤ → ℕ → Answer
duration_answer (negsuc n) room = refused 8
duration_answer (pos n) room = ranged most_minutes duration_text n room

abbrev pub time_answer : ℕ → ℕ → Answer
time_answer = ranged most_time time_text

-- the reading program, 65,536 bytes at most each way: what it writes
abbrev pub most_program_bytes : ℕ
most_program_bytes = 65536

abbrev pub output : Answer → List ℕ
output (refused n) = []
output (gives l) = l

unfoldable pub program_writes : Text → Text
program_writes tree = if leb (length tree) most_program_bytes then output (read_answer tree most_program_bytes) else []
