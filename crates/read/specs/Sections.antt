-- The six sections put one after another, and their counts closed. Assumes nothing.
use Rattle.std.specs.Prelude.{ℕ, ◌%◌, ◌^◌, ◌≤◌, ◌≡◌, true, ◌&&◌, List, ◌++◌, leb, length}
use Rattle.definition.specs.Bits.{Bits, bits_of}
use Rattle.definition.specs.Format.{Format, ◌⊗◌, times, whole}
use Rattle.definition.specs.Tree.{Element}
use Rattle.definition.specs.Model.{Calendar, Activity, Link, Resource, Assignment, Expense, Model}
use Rattle.definition.specs.Pack.{Counts, counts, counts_of, body, body_of, calendar, activity, link, resource, assignment, expense}
use Rattle.definition.specs.Calendar.{calendar_elements}
use Rattle.definition.specs.Task.{context_of}
use Rattle.definition.specs.Resource.{work_resources, resources, assignments, expenses}
use Rattle.definition.specs.Refusal.{most_elements}
use Rattle.definition.specs.Read.{model_of}
use Rattle.bits.specs.Places.{inside}
use Rattle.bits.specs.Steps.{Puts}
use Rattle.bits.specs.declared.Place.{Place}
use Rattle.pack.specs.Writes.{Writes, WritesIf}
use Rattle.pack.specs.Record.{counts_by}
use Rattle.pack.specs.Record as P
use Rattle.names.specs.Context.{context_at, calendars_before}
use Rattle.assignments.specs.Section.{WritesIn}
use Rattle.read.specs.declared.assigned.Assigned.{Assigned}
use Rattle.read.specs.declared.sections.Sections.{Sections}

abbrev pub start : Place
start = record { byte = 0; bit = 0 }

-- counts as 32 bits hold them
abbrev pub low : Counts → Counts
low k =
    let (c, (a, (l, (r, (s, e))))) = k in
    (c % 2 ^ 32, (a % 2 ^ 32, (l % 2 ^ 32, (r % 2 ^ 32, (s % 2 ^ 32, e % 2 ^ 32)))))

abbrev pub zeros : Counts
zeros = (0, (0, (0, (0, (0, 0)))))

-- the records behind the project
abbrev pub Listed : Type 0
Listed = List Calendar × (List Activity × (List Link × (List Resource × (List Assignment × List Expense))))

abbrev pub listed : Counts → Format Listed
listed k =
    let (c, (a, (l, (r, (s, e))))) = k in
    times c (whole calendar) ⊗ times a (whole activity) ⊗ times l (whole link) ⊗ times r (whole resource) ⊗ times s (whole assignment) ⊗
    times e (whole expense)

abbrev pub listed_of : Model → Listed
listed_of m = (body_of m).1

-- no more calendars and work resources than a tree may have elements
pub record Few (e : Element) : Type 0 where
  pub calendars : length (calendar_elements e) ≤ most_elements
  pub resources : length (work_resources e) ≤ most_elements

-- a place that is inside is at a whole byte
abbrev pub Whole : List ℕ → Place → Type 0
Whole d p = inside (length d) p ≡ true → p.bit % 8 ≡ 0

-- their counts, where all fitted
abbrev pub Counted : Element → List ℕ → Sections → Type 0
Counted e d' r = inside (length d') r.next ≡ true → counts_by r.counts ≡ low (counts_of (model_of e))

-- resources, which give d1, then assignments, which give d2, then expenses; the calendars stand at c
pub record AssignedPut (e : Element) (c : Place) (d : List ℕ) (p : Place) (d' : List ℕ) (r : Assigned) : Type 0 where
  pub d1 : List ℕ
  pub d2 : List ℕ
  pub resources_put : WritesIf (leb (length (work_resources e)) most_elements && calendars_before d c e p) (whole resource) (resources (context_at d c e) e) d p d1 r.resources
  pub assignments_put : Writes (whole assignment) (assignments (context_of e) e) d1 r.resources.next d2 r.assignments
  pub expenses_put : WritesIn (whole expense) (expenses (context_of e) e) d2 r.assignments.next d' r.expenses

-- the sections
pub record SectionsPut (e : Element) (d : List ℕ) (p : Place) (d' : List ℕ) (r : Sections) : Type 0 where
  pub same : length d' ≡ length d
  pub puts : Few e → Whole d p → Puts (listed (counts_of (model_of e))) (listed_of (model_of e)) d p d' r.next
  pub counts : Few e → Whole d p → Counted e d' r

-- all from the start on, with open counts
pub record AllPut (e : Element) (d d' : List ℕ) (r : Sections) : Type 0 where
  pub puts : Few e → Puts (counts ⊗ body (counts_of (model_of e))) (zeros, body_of (model_of e)) d start d' r.next
  pub counts : Few e → Counted e d' r

-- counts laid over zeros, and nothing else changed
pub record Closes (n : P.Counts) (d d' : List ℕ) : Type 0 where
  pub same : length d' ≡ length d
  pub bits : (c : Bits) → bits_of d ≡ counts.put 0 zeros ++ c → bits_of d' ≡ counts.put 0 (counts_by n) ++ c
