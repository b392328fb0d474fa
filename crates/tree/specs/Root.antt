-- The parts of a project by where they stand. Assumes nothing.
use Rattle.std.specs.Prelude.{if◌then◌else◌, ℕ, ◌≡◌, Bool, [], length, drop}
use Rattle.std.proofs.Math.Path.{refl}
use Rattle.std.proofs.Common.{◌∙◌, ltb-false, drop_of_length-le}
use Rattle.std.proofs.Math.Bool.{true, false}
use Rattle.std.specs.Prelude.{Option, Some, None}
use Rattle.std.proofs.Math.Dec.{ltb}
use Rattle.definition.specs.Base.{◌>>=◌, keep, first, same}
use Rattle.definition.specs.Ascii.{bytes}
use Rattle.definition.specs.Text.{Text, trim, trim_front, trim_back, strip}
use Rattle.definition.specs.Tree.{records_up_to, records, Element, Forest, nothing, one, elements, element, all, all_in, child, non_empty, text_of}
use Rattle.tree.specs.Place.{element_at}
use Rattle.tree.specs.declared.root.Root.{Root}

-- an element's own text; an empty one counts as absent
abbrev pub own_text : Element → Option Text
own_text e = non_empty (trim e.text)

-- ---- the project that has these parts

abbrev part : Text → Text → ℕ → Forest → Forest
part s n p rest = one n (element_at s p).text (element_at s p).below rest

abbrev parts_of : Root → Forest
parts_of r =
    let s = r.tree.now in
    part s (bytes "Calendars") r.calendars
    (part s (bytes "Tasks") r.tasks
    (part s (bytes "Resources") r.resources
    (part s (bytes "Assignments") r.assignments
    (part s (bytes "CalendarUID") r.calendar
    (part s (bytes "MinutesPerDay") r.minutes
    (part s (bytes "Title") r.title
    (part s (bytes "Name") r.name
    (part s (bytes "StartDate") r.start
    (part s (bytes "CurrencySymbol") r.currency
    (part s (bytes "StatusDate") r.status nothing))))))))))

unfoldable pub root_at : Root → Element
root_at r = record { name = bytes "Project"; text = []; below = parts_of r }

module _ (r : Root) where
  pub in_calendars : (n : Text) → all_in (child (root_at r) (bytes "Calendars")) n ≡ all (element_at r.tree.now r.calendars) n
  unfolding root_at child first all elements keep same
  in_calendars n = refl

  pub in_tasks : (n : Text) → all_in (child (root_at r) (bytes "Tasks")) n ≡ all (element_at r.tree.now r.tasks) n
  unfolding root_at child first all elements keep same
  in_tasks n = refl

  pub in_resources : (n : Text) → all_in (child (root_at r) (bytes "Resources")) n ≡ all (element_at r.tree.now r.resources) n
  unfolding root_at child first all elements keep same
  in_resources n = refl

  pub in_assignments : (n : Text) → all_in (child (root_at r) (bytes "Assignments")) n ≡ all (element_at r.tree.now r.assignments) n
  unfolding root_at child first all elements keep same
  in_assignments n = refl

  pub calendar_uid : text_of (root_at r) (bytes "CalendarUID") ≡ own_text (element_at r.tree.now r.calendar)
  unfolding root_at child first all elements keep same text_of
  calendar_uid = refl

  pub minutes_per_day : text_of (root_at r) (bytes "MinutesPerDay") ≡ own_text (element_at r.tree.now r.minutes)
  unfolding root_at child first all elements keep same text_of
  minutes_per_day = refl

  pub title_is : text_of (root_at r) (bytes "Title") ≡ own_text (element_at r.tree.now r.title)
  unfolding root_at child first all elements keep same text_of
  title_is = refl

  pub name_is : text_of (root_at r) (bytes "Name") ≡ own_text (element_at r.tree.now r.name)
  unfolding root_at child first all elements keep same text_of
  name_is = refl

  pub start_date : text_of (root_at r) (bytes "StartDate") ≡ own_text (element_at r.tree.now r.start)
  unfolding root_at child first all elements keep same text_of
  start_date = refl

  pub currency_symbol : text_of (root_at r) (bytes "CurrencySymbol") ≡ own_text (element_at r.tree.now r.currency)
  unfolding root_at child first all elements keep same text_of
  currency_symbol = refl

  pub status_date : text_of (root_at r) (bytes "StatusDate") ≡ own_text (element_at r.tree.now r.status)
  unfolding root_at child first all elements keep same text_of
  status_date = refl

-- ---- what holds of each part, of its name and where it stands

pub record Parts (P : Text → ℕ → Type 0) (r : Root) : Type 0 where
  pub calendars : P (bytes "Calendars") r.calendars
  pub tasks : P (bytes "Tasks") r.tasks
  pub resources : P (bytes "Resources") r.resources
  pub assignments : P (bytes "Assignments") r.assignments
  pub calendar : P (bytes "CalendarUID") r.calendar
  pub minutes : P (bytes "MinutesPerDay") r.minutes
  pub title : P (bytes "Title") r.title
  pub name : P (bytes "Name") r.name
  pub start : P (bytes "StartDate") r.start
  pub currency : P (bytes "CurrencySymbol") r.currency
  pub status : P (bytes "StatusDate") r.status

-- p is where an element stands, or past the end where there is none
pub record Stands (s : Text) (p : ℕ) (o : Option Element) : Type 0 where
  pub is : o ≡ (if ltb p (length s) then Some (element_at s p) else None)

-- nothing stands past the end
past_end : (s : Text) (p : ℕ) → ltb p (length s) ≡ false → element_at s p ≡ element []
unfolding records records_up_to
past_end s p h = let e : drop p s ≡ [] = drop_of_length-le s (ltb-false p (length s) h) in rw e

module _ {s : Text} {p : ℕ} {o : Option Element} (h : Stands s p o) where
  pub stands_all : (n : Text) → all (element_at s p) n ≡ all_in o n
  unfolding element all elements keep
  stands_all n = go (ltb p (length s)) refl
    where
      go : (b : Bool) → ltb p (length s) ≡ b → all (element_at s p) n ≡ all_in o n
      go true e = let i : o ≡ Some (element_at s p) = h.is ∙ rw e in rw i
      go false e = let i : o ≡ None = h.is ∙ rw e in rw (i, past_end s p e)

  pub stands_text : own_text (element_at s p) ≡ (o >>= λ c. own_text c)
  unfolding element trim trim_front trim_back strip
  stands_text = go (ltb p (length s)) refl
    where
      go : (b : Bool) → ltb p (length s) ≡ b → own_text (element_at s p) ≡ (o >>= λ c. own_text c)
      go true e = let i : o ≡ Some (element_at s p) = h.is ∙ rw e in rw i
      go false e = let i : o ≡ None = h.is ∙ rw e in rw (i, past_end s p e)

-- ---- the walk

-- the first of a name, once the child at a position was looked at
abbrev pub note_at : Text → ℕ → Text → ℕ → ℕ
note_at s at n was = if ltb was (length s) then was else if same (element_at s at).name n then at else was

pub record Notes (s : Text) (at : ℕ) (was r : Root) : Type 0 where
  pub calendars : r.calendars ≡ note_at s at (bytes "Calendars") was.calendars
  pub tasks : r.tasks ≡ note_at s at (bytes "Tasks") was.tasks
  pub resources : r.resources ≡ note_at s at (bytes "Resources") was.resources
  pub assignments : r.assignments ≡ note_at s at (bytes "Assignments") was.assignments
  pub calendar : r.calendar ≡ note_at s at (bytes "CalendarUID") was.calendar
  pub minutes : r.minutes ≡ note_at s at (bytes "MinutesPerDay") was.minutes
  pub title : r.title ≡ note_at s at (bytes "Title") was.title
  pub name : r.name ≡ note_at s at (bytes "Name") was.name
  pub start : r.start ≡ note_at s at (bytes "StartDate") was.start
  pub currency : r.currency ≡ note_at s at (bytes "CurrencySymbol") was.currency
  pub status : r.status ≡ note_at s at (bytes "StatusDate") was.status
