-- What the decoding pass answers: whether the bytes are a model, and where its sections stand. Assumes nothing.
use Rattle.std.specs.Prelude.{if◌then◌else◌, ◌≡◌, true, ◌&&◌, List, ℕ, ◌+◌, ◌-◌, ◌*◌, ◌%◌, ◌≤◌, ◌<◌, length, drop, eqb, ltb}
use Rattle.std.specs.Prelude.{Option}
use Rattle.std.proofs.Common.{◌∙◌, arith}
use Rattle.std.specs.Prelude.{Some, None}
use Rattle.std.proofs.Math.Nat.{sub-zero}
use Rattle.definition.specs.Base.{given}
use Rattle.definition.specs.Bits.{Bits, bits_of}
use Rattle.definition.specs.Format.{Format, whole, times}
use Rattle.definition.specs.Model.{Model}
use Rattle.definition.specs.Pack.{Counts as CountsOf, project, calendar, activity, link, resource, assignment, expense, decode}
use Rattle.bits.specs.Places.{past, Fits}
use Rattle.bits.specs.Reads.{rest, Reads, rest_in}
use Rattle.bits.specs.declared.Place.{Place}
use Rattle.model.specs.Lax.{Lax}
use Rattle.model.specs.Passes.{Passes}
use Rattle.model.specs.Answers.{rest_fits}
use Rattle.model.specs.Parts.{record_of}
use Rattle.model.specs.Splits.{Step, step}
use Rattle.model.specs.declared.records.Kind.{Kind}
use Rattle.model.specs.declared.Head.{Head}
use Rattle.model.specs.declared.Section.{Section}
use Rattle.model.specs.PerKind.{Sections}
use Rattle.model.specs.PerKind.{Counts}
use Rattle.model.specs.PerKind.{Places}

-- the place of a whole byte
abbrev pub byte_at : ℕ → Place
byte_at n = record { byte = n; bit = 0 }

abbrev pub start : Place
start = byte_at 0

abbrev pub counts_in : Counts → CountsOf
counts_in n = (n.value.calendars, (n.value.activities, (n.value.links, (n.value.resources, (n.value.assignments, n.value.expenses)))))

-- six counts that were read, if the place behind them is one; else zeros
abbrev pub counts_by : CountsOf → Place → CountsOf × Place
counts_by n p = if ltb 7 p.bit then ((0, (0, (0, (0, (0, 0))))), past) else (n, p)

-- the place behind the project record, and behind so many records of a kind
abbrev pub PassesProject : List ℕ → Place → Place → Type 0
PassesProject = Passes (whole project)

abbrev pub PassesRecords : Kind → ℕ → List ℕ → Place → Place → Type 0
PassesRecords kind count = Passes (times count (record_of true kind))

-- the places of the first two sections
pub record Heads (s : List ℕ) (n : Counts) (h : Head) : Type 0 where
  pub project : Passes (whole project) s n.next h.calendars
  pub calendars : Passes (times n.value.calendars (whole calendar)) s h.calendars h.activities

-- the places of the sections behind the activities, which end at a place
pub record Behind (s : List ℕ) (n : Counts) (h : Head) (end : Place) (w : Places) : Type 0 where
  pub calendars_at : w.value.calendars ≡ h.calendars
  pub activities_at : w.value.activities ≡ h.activities
  pub links_at : w.value.links ≡ end
  pub links : Passes (times n.value.links (whole link)) s end w.value.resources
  pub resources : Passes (times n.value.resources (whole resource)) s w.value.resources w.value.assignments
  pub assignments : Passes (times n.value.assignments (whole assignment)) s w.value.assignments w.value.expenses
  pub expenses : Passes (times n.value.expenses (whole expense)) s w.value.expenses w.next

-- the places between the sections
pub record Walks (s : List ℕ) (n : Counts) (w : Places) : Type 0 where
  pub project : Passes (whole project) s n.next w.value.calendars
  pub calendars : Passes (times n.value.calendars (whole calendar)) s w.value.calendars w.value.activities
  pub activities : Passes (times n.value.activities (whole activity)) s w.value.activities w.value.links
  pub links : Passes (times n.value.links (whole link)) s w.value.links w.value.resources
  pub resources : Passes (times n.value.resources (whole resource)) s w.value.resources w.value.assignments
  pub assignments : Passes (times n.value.assignments (whole assignment)) s w.value.assignments w.value.expenses
  pub expenses : Passes (times n.value.expenses (whole expense)) s w.value.expenses w.next

-- whoever passes over the activities between the two has walked over all
pub walks : {s : List ℕ} {n : Counts} {h : Head} {end : Place} {w : Places} → Heads s n h → Passes (times n.value.activities (whole activity)) s h.activities end → Behind s n h end w → Walks s n w
walks a p b = record {
  project = rw b.calendars_at a.project;
  calendars = rw (b.calendars_at, b.activities_at) a.calendars;
  activities = rw (b.activities_at, b.links_at) p;
  links = rw b.links_at b.links;
  resources = b.resources;
  assignments = b.assignments;
  expenses = b.expenses;
}

-- a section holds these records, and the next one begins at a byte
pub record Holds {A : Type 0} (f : Format A) (s : List ℕ) (x : Section) (xs : List A) (next : ℕ) : Type 0 where
  pub count : length xs ≡ x.count
  pub reads : Reads (times x.count (whole f)) s (byte_at x.at) xs (byte_at next)
  pub ends : next ≤ length s

-- the sections of a model that was decoded, the last one up to the end
pub record Decoded (s : List ℕ) (m : Model) (r : Sections) : Type 0 where
  pub calendars : Holds calendar s r.calendars m.calendars r.activities.at
  pub activities : Holds activity s r.activities m.activities r.links.at
  pub links : Holds link s r.links m.links r.resources.at
  pub resources : Holds resource s r.resources m.resources r.assignments.at
  pub assignments : Holds assignment s r.assignments m.assignments r.expenses.at
  pub expenses : Holds expense s r.expenses m.expenses (length s)

-- the sections between these places, if the last one ends where so many bytes end
abbrev pub sections_of : Counts → Places → Sections
sections_of n w = record {
  calendars = record { count = n.value.calendars; at = w.value.calendars.byte };
  activities = record { count = n.value.activities; at = w.value.activities.byte };
  links = record { count = n.value.links; at = w.value.links.byte };
  resources = record { count = n.value.resources; at = w.value.resources.byte };
  assignments = record { count = n.value.assignments; at = w.value.assignments.byte };
  expenses = record { count = n.value.expenses; at = w.value.expenses.byte };
}

abbrev pub sections_by : ℕ → Counts → Places → Option Sections
sections_by len n w = if eqb w.next.bit 0 && eqb w.next.byte len then Some (sections_of n w) else None

-- document 01's number
abbrev pub opened_number : Option Sections → ℕ
opened_number (Some r) = 0
opened_number None = 6

-- bytes that decode, and the sections of the model
pub record Sectioned (s : List ℕ) (r : Sections) : Type 0 where
  pub model : Model
  pub decodes : decode s ≡ Some model
  pub sections : Decoded s model r

-- the answer: the sections if the bytes decode; else that they do not
pub record Opens (s : List ℕ) (o : Option Sections) : Type 0 where
  pub number : opened_number o ≡ (if given (decode s) then 0 else 6)
  pub model : (r : Sections) → o ≡ Some r → Sectioned s r
  pub refused : o ≡ None → decode s ≡ None

-- ---- laws for who walks a section

-- a place of a record that is there is a whole byte
pub byte_place : (s : List ℕ) (q : Place) {l : Bits} → rest s q ≡ Some l → q.bit % 8 ≡ 0 → q ≡ byte_at q.byte
byte_place s q e h =
    let f = rest_fits s q e in
    let z : q.bit ≡ 0 = omega (arith, f.bit) in
    rw z

-- a byte up to the end is a place
pub byte_rest : (s : List ℕ) (n : ℕ) → n ≤ length s → rest s (byte_at n) ≡ Some (drop (8 * n) (bits_of s))
byte_rest s n h =
    let f : Fits (length s) (byte_at n) 0 = record { bit = omega arith; ends = omega arith } in
    let e : 8 * n + 0 ≡ 8 * n = omega arith in
    rest_in s (byte_at n) f ∙ rw e

module _ {A : Type 0} {f : Format A} {s : List ℕ} {x : Section} {xs : List A} {next : ℕ} (h : Holds f s x xs next) where
  -- where a walk begins: none passed yet
  pub none_passed : Reads (times (x.count - 0) (whole f)) s (byte_at x.at) (drop 0 xs) (byte_at next)
  none_passed = rw sub-zero h.reads

  -- one record more: the place that a skipper answered, at i of the section
  pub one_passed : {B : Type 0} {g : Format B} {q r : Place} (i : ℕ) → Lax g (whole f) → Reads (times (x.count - i) (whole f)) s q (drop i xs) (byte_at next) → i < x.count → Passes g s q r
      → Step (whole f) s q r (byte_at next) x.count i xs
  one_passed i a k l p = step a (byte_rest s next h.ends) k l p
