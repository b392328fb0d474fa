-- What the readers of parts answer, and what the parts of a decoded record are: each law goes from a record that stands at a place, and from what a
-- reader answered there, to the field of the record. Assumes nothing.
use Rattle.std.specs.Prelude.{◌≡◌, refl, Bool, true, false, List, ℕ, ◌+◌, ◌%◌, ◌≤◌, length, take, drop}
use Rattle.std.proofs.Common.{sym, ap, ◌∙◌}
use Rattle.std.specs.Prelude.{Option, Some}
use Rattle.std.specs.Borrow.{Bor}
use Rattle.std.specs.Option.{option_copied}
use Rattle.definition.specs.Base.{◌>>=◌}
use Rattle.definition.specs.Text.{Text, is_utf8}
use Rattle.definition.specs.Calendar.{by_date}
use Rattle.definition.specs.Format.{Format, ◌⊗◌, whole, times, row, flag, text, date, optional, list_of, periods, dates}
use Rattle.definition.specs.Model.{Calendar, Activity, Link, Resource, Assignment, Expense}
use Rattle.definition.specs.Pack.{calendar, activity, link, resource, assignment, expense}
use Rattle.bits.specs.Reads.{Reads, Spans, pad_at, read_some, refuse_some}
pub use Rattle.bits.specs.Reads.{span_ends, between}
use Rattle.bits.specs.declared.Place.{Place}
use Rattle.bits.specs.declared.Field.{Field}
use Rattle.bits.specs.declared.Span.{Span}
use Rattle.model.specs.Lax.{regroup_none, regroup_more}
use Rattle.model.specs.Passes.{Passes, pass_as, ◌⨾◌, ended}
use Rattle.model.specs.Answers.{name_at, rows_at}
use Rattle.model.specs.Parts.{text_by, activity_head, activity_parts, activity_notes, resource_head, record_of, regroup_five, lax_text, lax_activity_head, lax_resource_head}
use Rattle.model.specs.Splits.{Stands, not_refused, stands_is, stands_reads, stands_first, stands_next, stands_pass, stands_named, stands_whole, stands_regroup, stands_or}
use Rattle.model.specs.declared.records.Kind.TheVariants.{Activities}
use Rattle.model.specs.declared.parts.CalendarPlaces.{CalendarPlaces}

-- ---- answers

-- the bytes of a text, and of an optional one
abbrev pub text_in : List ℕ → ℕ × ℕ → Text
text_in s x = take x.1 (drop x.0 s)

abbrev pub name_in : List ℕ → Option (ℕ × ℕ) → Option Text
name_in s o = o >>= λ x. Some (text_in s x)

-- a flag, and where the text behind it stands if it is set; where an optional text stands, it is that
pub record NamePlaced (s : List ℕ) (p : Place) (r : Field (Option (ℕ × ℕ)) Place) : Type 0 where
  pub is : (r.value, r.next) ≡ name_at s p
  pub within : (start len : ℕ) → r.value ≡ Some (start, len) → start + len ≤ length s
  pub text : (o : Option Text) → Stands (optional text) s p o → o ≡ name_in s r.value

-- the text itself; where an optional text stands, it is that
pub record NameTaken (s : List ℕ) (p : Place) (r : Field (Option (Bor (List ℕ))) Place) : Type 0 where
  pub is : ◌≡◌ {A = Option Text × Place} (option_copied r.value, r.next) (name_in s (name_at s p).0, (name_at s p).1)
  pub text : (o : Option Text) → Stands (optional text) s p o → o ≡ option_copied r.value

pub record CalendarAt (s : List ℕ) (p : Place) (r : CalendarPlaces) : Type 0 where
  pub name : Passes (text_by false) s p r.week
  pub week : Passes (times 7 flag) s r.week r.hours
  pub hours : Passes (times 7 periods) s r.hours r.holidays
  pub holidays : Passes dates s r.holidays r.extra
  pub extra : Passes dates s r.extra r.exceptions

-- ---- texts

pub text_is : {s : List ℕ} {p : Place} {x : Span} {t : Text} → Stands text s p t → Spans s p x → t ≡ text_in s (x.start, x.len)
text_is {s} {p} {x} {t} h i = by_utf8 (is_utf8 (text_in s (x.start, x.len))) refl
  where
    by_utf8 : (b : Bool) → is_utf8 (text_in s (x.start, x.len)) ≡ b → t ≡ text_in s (x.start, x.len)
    by_utf8 true e = sym (stands_is h (i.reads e))
    by_utf8 false e = absurd (not_refused h (i.refuses e))

-- an optional text whose flag is set
pub name_is : {s : List ℕ} {p q : Place} {x : Span} {o : Option Text} → Stands (optional text) s p o → Reads flag s p true q → Spans s q x → o ≡ Some (text_in s (x.start, x.len))
name_is {s} {p} {q} {x} {o} h f i = by_utf8 (is_utf8 (text_in s (x.start, x.len))) refl
  where
    by_utf8 : (b : Bool) → is_utf8 (text_in s (x.start, x.len)) ≡ b → o ≡ Some (text_in s (x.start, x.len))
    by_utf8 true e = sym (stands_is h (read_some f (i.reads e)))
    by_utf8 false e = absurd (not_refused h (refuse_some f (i.refuses e)))

-- ---- activities

module _ {s : List ℕ} {p : Place} {a : Activity} (h : Stands (whole activity) s p a) where
  pub activity_id : Stands text s p a.id
  unfolding activity
  activity_id = let u = stands_named _ _ (stands_whole h) in rw u.is (stands_first _ u.stands)

  pub activity_parent : (check : Bool) {q : Place} → Passes (activity_head (text_by check)) s p q → Stands (optional row) s q a.parent
  unfolding activity
  activity_parent check b =
      let u = stands_named _ _ (stands_whole h) in
      let x = stands_next (stands_regroup (regroup_five _ _ _ _ _ _) u.stands) (lax_activity_head check) b in
      rw u.is (stands_first _ x)

-- the fields before the parent, the parent, and what is behind it make the record
pub activity_passed : (check : Bool) {s : List ℕ} {p q n k r : Place} → Passes (activity_head (text_by check)) s p q → Passes (optional row) s q n
    → Passes (activity_notes (text_by check)) s n k → r ≡ pad_at s k → Passes (record_of check Activities) s p r × (r.bit % 8 ≡ 0)
unfolding record_of activity_parts
activity_passed check b e i z =
    let x = ended (b ⨾ e ⨾ i) z in
    (pass_as refl x.0, x.1)

-- ---- resources

module _ {s : List ℕ} {p : Place} {a : Resource} (h : Stands (whole resource) s p a) where
  pub resource_id : Stands text s p a.id
  unfolding resource
  resource_id = let u = stands_named _ _ (stands_whole h) in rw u.is (stands_first _ u.stands)

  pub resource_calendar_lem : {q : Place} → Passes (resource_head (text_by false)) s p q → Stands (optional text) s q a.calendar
  unfolding resource
  resource_calendar_lem b =
      let u = stands_named _ _ (stands_whole h) in
      let x = stands_next (stands_regroup (regroup_five _ _ _ _ _ _) u.stands) (lax_resource_head false) b in
      rw u.is (stands_first _ x)

-- ---- links, assignments, expenses

rows_are : {A : Type 0} (f : Format A) {s : List ℕ} {p : Place} {r : (ℕ × ℕ) × Place} {c : ℕ × (ℕ × A)} → Stands (row ⊗ row ⊗ f) s p c → r ≡ rows_at s p → (r.0.0 ≡ c.0) × (r.0.1 ≡ c.1.0)
rows_are f {r = r} {c = c} h e =
    let z : ◌≡◌ {A = ℕ × ℕ} r.0 (c.0, c.1.0) = ap (λ (x : (ℕ × ℕ) × Place). x.0) e ∙ stands_or (stands_first f (stands_regroup (regroup_more row row f (regroup_none (row ⊗ f))) h)) (0, 0) in
    (ap (λ (x : ℕ × ℕ). x.0) z, ap (λ (x : ℕ × ℕ). x.1) z)

pub link_rows : {s : List ℕ} {p : Place} {r : (ℕ × ℕ) × Place} {a : Link} → Stands (whole link) s p a → r ≡ rows_at s p → (r.0.0 ≡ a.predecessor) × (r.0.1 ≡ a.successor)
unfolding link
link_rows h i = let u = stands_named _ _ (stands_whole h) in rw u.is (rows_are _ u.stands i)

pub assignment_rows : {s : List ℕ} {p : Place} {r : (ℕ × ℕ) × Place} {a : Assignment} → Stands (whole assignment) s p a → r ≡ rows_at s p → (r.0.0 ≡ a.activity) × (r.0.1 ≡ a.resource)
unfolding assignment
assignment_rows h i = let u = stands_named _ _ (stands_whole h) in rw u.is (rows_are _ u.stands i)

module _ {s : List ℕ} {p : Place} {a : Expense} (h : Stands (whole expense) s p a) where
  pub expense_activity : Stands row s p a.activity
  unfolding expense
  expense_activity = let u = stands_named _ _ (stands_whole h) in rw u.is (stands_first _ u.stands)

  pub expense_name : {q : Place} → Passes row s p q → Stands text s q a.name
  unfolding expense
  expense_name i = let u = stands_named _ _ (stands_whole h) in rw u.is (stands_first _ (stands_pass u.stands i))

-- ---- calendars

pub record CalendarIs (s : List ℕ) (p : Place) (r : CalendarPlaces) (c : Calendar) : Type 0 where
  pub name : Stands text s p c.name
  pub week : Reads (times 7 flag) s r.week c.week r.hours
  pub hours : Reads (times 7 periods) s r.hours c.hours r.holidays
  pub holidays : Reads dates s r.holidays c.holidays r.extra
  pub extra : Reads dates s r.extra c.extra_days r.exceptions
  pub exceptions : Stands (list_of by_date (date ⊗ periods)) s r.exceptions c.exceptions

pub calendar_is : {s : List ℕ} {p : Place} {r : CalendarPlaces} {c : Calendar} → Stands (whole calendar) s p c → CalendarAt s p r → CalendarIs s p r c
unfolding calendar
calendar_is h b =
    let u = stands_named _ _ (stands_whole h) in
    let x1 = stands_next u.stands (lax_text false) b.name in
    let x2 = stands_pass x1 b.week in
    let x3 = stands_pass x2 b.hours in
    let x4 = stands_pass x3 b.holidays in
    let x5 = stands_pass x4 b.extra in
    rw u.is
    record {
      name = stands_first _ u.stands;
      week = stands_reads (stands_first _ x1) b.week;
      hours = stands_reads (stands_first _ x2) b.hours;
      holidays = stands_reads (stands_first _ x3) b.holidays;
      extra = stands_reads (stands_first _ x4) b.extra;
      exceptions = x5;
    }
