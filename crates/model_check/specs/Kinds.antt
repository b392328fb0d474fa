-- The records of the six sections: what they are, how they are packed, and a run of them in a model's bytes. Assumes nothing.
use Rattle.std.specs.Prelude.{◌≡◌, false, List, ℕ, ◌≤◌, length}
use Rattle.definition.specs.Format.{Format, whole, times}
use Rattle.definition.specs.Model.{Model, Calendar, Activity, Link, Resource, Assignment, Expense}
use Rattle.definition.specs.Pack.{calendar, activity, link, resource, assignment, expense}
use Rattle.bits.specs.Reads.{Reads}
use Rattle.bits.specs.declared.Place.{Place}
use Rattle.model.specs.Lax.{Lax}
use Rattle.model.specs.Parts.{record_of, lax_calendars, lax_activities, lax_links, lax_resources, lax_assignments, lax_expenses}
use Rattle.model.specs.PerKind.{Sections}
use Rattle.model.specs.Sections.{byte_at, Holds, Decoded}
use Rattle.model.specs.declared.Section.{Section}
use Rattle.model.specs.declared.records.Kind.{Kind}
use Rattle.model.specs.declared.records.Kind.TheVariants.{Calendars, Activities, Links, Resources, Assignments, Expenses}

abbrev pub Item : Kind → Type 0
Item Calendars = Calendar
Item Activities = Activity
Item Links = Link
Item Resources = Resource
Item Assignments = Assignment
Item Expenses = Expense

abbrev pub format_of : (k : Kind) → Format (Item k)
format_of Calendars = calendar
format_of Activities = activity
format_of Links = link
format_of Resources = resource
format_of Assignments = assignment
format_of Expenses = expense

-- a model's records of a kind, and its section of them
abbrev pub items_of : Model → (k : Kind) → List (Item k)
items_of m Calendars = m.calendars
items_of m Activities = m.activities
items_of m Links = m.links
items_of m Resources = m.resources
items_of m Assignments = m.assignments
items_of m Expenses = m.expenses

abbrev pub section_of : Sections → Kind → Section
section_of w Calendars = w.calendars
section_of w Activities = w.activities
section_of w Links = w.links
section_of w Resources = w.resources
section_of w Assignments = w.assignments
section_of w Expenses = w.expenses

-- a record that was decoded is passed over without its tests
pub lax_record : (k : Kind) → Lax (record_of false k) (whole (format_of k))
lax_record Calendars = lax_calendars false
lax_record Activities = lax_activities false
lax_record Links = lax_links false
lax_record Resources = lax_resources false
lax_record Assignments = lax_assignments false
lax_record Expenses = lax_expenses false

-- so many records stand from a place on, up to a byte
pub record Run (kind : Kind) (s : List ℕ) (p : Place) (n : ℕ) (xs : List (Item kind)) (end : ℕ) : Type 0 where
  pub reads : Reads (times n (whole (format_of kind))) s p xs (byte_at end)
  pub ends : end ≤ length s

pub run : (kind : Kind) {s : List ℕ} {x : Section} {xs : List (Item kind)} {end : ℕ} → Holds (format_of kind) s x xs end → Run kind s (byte_at x.at) x.count xs end
run kind h = record { reads = h.reads; ends = h.ends }

-- of a decoded model each section stands where it is said
pub run_of : (kind : Kind) {s : List ℕ} {m : Model} {w : Sections} {x : Section} → Decoded s m w → x ≡ section_of w kind → (end : ℕ) × Run kind s (byte_at x.at) x.count (items_of m kind) end
run_of Calendars d e = rw e (_, run Calendars d.calendars)
run_of Activities d e = rw e (_, run Activities d.activities)
run_of Links d e = rw e (_, run Links d.links)
run_of Resources d e = rw e (_, run Resources d.resources)
run_of Assignments d e = rw e (_, run Assignments d.assignments)
run_of Expenses d e = rw e (_, run Expenses d.expenses)
