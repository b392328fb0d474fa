-- What fits the fields of a record, by what a text is: UTF-8, or any bytes. The formats of the records keep the promises of Formats for what
-- fits. Assumes nothing.
use Rattle.std.specs.Prelude.{if◌then◌else◌, ◌≡◌, refl, Bool, true, false, not, List, [], ◌∷◌, ◌++◌, ℕ, ◌+◌, ◌*◌, ◌^◌, ◌<◌, ltb, eqb, ℤ, length, drop}
use Rattle.std.proofs.Common.{sym, ap, ◌∙◌, arith, ltb-false, le-ltb, length-append, drop_at}
use Rattle.std.specs.Prelude.{Option, Some, None}
use Rattle.definition.specs.Base.{◌>>=◌}
use Rattle.definition.specs.Bits.{Bits, bits_of, bytes_up_to}
use Rattle.definition.specs.Text.{Text}
use Rattle.definition.specs.Date.{Date}
use Rattle.definition.specs.Format.{Format, Period, ◌⊗◌, times, whole, count, row, flag, code, number, optional, depending, earlier}
use Rattle.definition.specs.Model.{Project, Calendar, Activity, Link, Resource, Assignment, Expense}
use Rattle.definition.specs.Calendar.{by_date}
use Rattle.definition.specs.Pack.{named, resource, assignment, expense}
use Rattle.laws.specs.Bools.{Within}
use Rattle.laws.specs.Options.{never}
use Rattle.laws.specs.Each.{Each, empty, next}
use Rattle.laws.specs.Bits.{Binary, Bytes, bits_binary, length_bits, length_bytes, bytes_bits, bits_bytes, bytes_small}
use Rattle.laws.specs.Formats.{got, Begins, Good, regard, lead, good_lead, Both, ◌&◌, IfGiven, Depends, good_depending, good_via, Times, good_times, good_whole, IsText, good_count, good_text, Rising}
use Rattle.laws.specs.Fields.{good_flag, good_code, IsPeriod, Signed, good_number, InYears, good_optional}

-- ---- texts of any bytes

-- bytes, and a length that fits a count
abbrev pub Short : Text → Type 0
Short s = (length s < 2 ^ 32) × Bytes s

unfoldable pub any_text : Format Text
any_text = record {
  put = λ n s. (whole count).put n (length s) ++ bits_of s;
  get = λ l. (whole count).get l >>= λ x. if ltb (length x.1) (8 * x.0) then None else Some (bytes_up_to x.0 x.1, drop (8 * x.0) x.1);
}

-- so many bytes
any_bytes : ℕ → Format Text
any_bytes k = record {
  put = λ n s. bits_of s;
  get = λ l. if ltb (length l) (8 * k) then None else Some (bytes_up_to k l, drop (8 * k) l);
}

abbrev SoMany : ℕ → Text → Type 0
SoMany k s = (length s ≡ k) × Bytes s

good_bytes : (k : ℕ) → Good (any_bytes k) (SoMany k)
unfolding any_bytes
good_bytes k = record {
  binary = λ n s. bits_binary s;
  back = λ n s rest h e. back s rest h.0 h.1;
  exact = λ n l x b e h. exact n l x b (ltb (length l) (8 * k)) refl h;
}
  where
    back : (s : Text) (rest : Bits) → length s ≡ k → Bytes s → (any_bytes k).get (bits_of s ++ rest) ≡ Some (s, rest)
    back s rest h u =
        let m : length (bits_of s) ≡ 8 * k = length_bits s ∙ ap (λ (i : ℕ). 8 * i) h in
        let e : bytes_up_to k (bits_of s ++ rest) ≡ s = rw (← h) (bytes_bits rest u) in
        rw (le-ltb (length (bits_of s ++ rest)) (8 * k) (rw (length-append, m) (omega arith)), e, drop_at (bits_of s) rest (8 * k) m)

    exact : (n : ℕ) (l : Bits) (x : Text × Bits) → Binary l → (t : Bool) → ltb (length l) (8 * k) ≡ t
        → (if t then None else Some (bytes_up_to k l, drop (8 * k) l)) ≡ Some x → Begins (any_bytes k) (SoMany k) n l x
    exact n l x b true e h = never h
    exact n l x b false e h =
        let u = ltb-false (length l) (8 * k) e in
        got (Begins (any_bytes k) (SoMany k) n l) h (sym (bits_bytes k b u), (length_bytes k l, bytes_small k b u))

pub good_any : Good any_text Short
unfolding any_text lead any_bytes
good_any =
    regard (λ s h. (h.0, h.1.1)) (λ s h. (h.0, (refl, h.1)))
    (good_lead (length {A = ℕ}) (λ n a. n + length ((whole count).put n a)) {G = SoMany} (λ n a. refl) (λ k s h. h.0) (good_whole good_count) good_bytes)

-- ---- parts of records

-- the same values under names
pub good_named : {A B : Type 0} (to : A → B) (from : B → A) {f : Format A} {F : A → Type 0}
    → ((b : B) → to (from b) ≡ b) → ((a : A) → from (to a) ≡ a) → Good f F → Good (named to from f) (λ b. F (from b))
good_named to from {F = F} left right g =
    good_via
    (record {
      fits = λ b h. h;
      there = λ b h. ap Some (left b);
      back = λ a b h e. got (λ b. (from b ≡ a) × F (from b)) e (right a, rw (right a) h);
    })
    g

-- counts and rows
abbrev pub IsCount : ℕ → Type 0
IsCount n = n < 2 ^ 32

abbrev pub IsNumber : ℤ → Type 0
IsNumber = Signed 64

-- seven flags and seven lists of periods
each_any : {A : Type 0} (l : List A) → Each (λ x. Unit {0}) l
each_any [] = empty
each_any (x ∷ l) = next tt (each_any l)

abbrev pub IsWeek : List Bool → Type 0
IsWeek l = length l ≡ 7

pub good_week : Good (times 7 flag) IsWeek
good_week = regard (λ l h. h.many) (λ l h. record { many = h; each = each_any l }) (good_times 7 good_flag)

abbrev pub ArePeriods : List Period → Type 0
ArePeriods = Rising earlier IsPeriod

-- a date with its hours
abbrev pub IsDay : Date × List Period → Type 0
IsDay = Both InYears ArePeriods

-- code 1 to 7, and a date unless it is 1
abbrev pub IsConstraint : ℕ × Option Date → Type 0
IsConstraint = Depends (Within 1 7) (λ k. not (eqb k 1)) InYears

-- code 0 to 2, and a number if it is 2
abbrev pub IsLagKind : ℕ × Option ℤ → Type 0
IsLagKind = Depends (Within 0 2) (eqb 2) IsNumber

pub good_lag_kind : Good (depending (code 0 2) (eqb 2) number) IsLagKind
good_lag_kind = good_depending (eqb 2) (good_code 0 2 (omega arith)) good_number

-- ---- records by their parts

module _ (T : Text → Type 0) where
  abbrev pub ProjectParts : Text × (Date × (Text × (ℕ × (ℕ × (ℕ × (ℕ × Option Date)))))) → Type 0
  ProjectParts = Both T (Both InYears (Both T (Both IsCount (Both IsCount (Both IsCount (Both IsCount (IfGiven InYears)))))))

  abbrev pub CalendarParts : Text × (List Bool × (List (List Period) × (List Date × (List Date × List (Date × List Period))))) → Type 0
  CalendarParts = Both T (Both IsWeek (Both (Times ArePeriods 7) (Both (Rising ltb InYears) (Both (Rising ltb InYears) (Rising by_date IsDay)))))

  -- and behind its notes: calendar, constraint, deadline, start, finish, percent, duration type, remaining, UID
  abbrev pub ActivityRest : Option Text × (Option (ℕ × Option Date) × (Option Date × (Option Date × (Option Date × (Option ℤ × (ℕ × (Option ℤ × Text))))))) → Type 0
  ActivityRest =
      Both (IfGiven T) (Both (IfGiven IsConstraint) (Both (IfGiven InYears) (Both (IfGiven InYears) (Both (IfGiven InYears)
      (Both (IfGiven IsNumber) (Both (Within 0 3) (Both (IfGiven IsNumber) T)))))))

  abbrev pub ExpenseParts : ℕ × (Text × (ℤ × (ℤ × (Option ℤ × ℕ)))) → Type 0
  ExpenseParts = Both IsCount (Both T (Both IsNumber (Both IsNumber (Both (IfGiven IsNumber) (Within 0 2)))))

abbrev pub LinkParts : ℕ × (ℕ × (ℕ × (ℤ × (Option ℤ × (ℕ × Option ℤ))))) → Type 0
LinkParts = Both IsCount (Both IsCount (Both (Within 0 3) (Both IsNumber (Both (IfGiven IsNumber) IsLagKind))))

abbrev pub AssignmentParts : ℕ × (ℕ × (ℤ × (ℤ × (Option ℤ × Option ℤ)))) → Type 0
AssignmentParts = Both IsCount (Both IsCount (Both IsNumber (Both IsNumber (Both (IfGiven IsNumber) (IfGiven IsNumber)))))

module _ {t : Format Text} {T : Text → Type 0} (g : Good t T) where
  pub good_expense_parts : Good (row ⊗ t ⊗ number ⊗ number ⊗ optional number ⊗ code 0 2) (ExpenseParts T)
  good_expense_parts = good_count & g & good_number & good_number & good_optional good_number & good_code 0 2 (omega arith)

pub good_assignment_parts : Good (row ⊗ row ⊗ number ⊗ number ⊗ optional number ⊗ optional number) AssignmentParts
good_assignment_parts = good_count & good_count & good_number & good_number & good_optional good_number & good_optional good_number

-- ---- records

module _ (T : Text → Type 0) where
  abbrev pub FitsProjectBy : Project → Type 0
  FitsProjectBy p = ProjectParts T (p.name, (p.start, (p.currency, (p.skipped, (p.dangling, (p.across, (p.fractional, p.data_date)))))))

  abbrev pub FitsCalendarBy : Calendar → Type 0
  FitsCalendarBy c = CalendarParts T (c.name, (c.week, (c.hours, (c.holidays, (c.extra_days, c.exceptions)))))

  abbrev pub FitsActivityBy : Activity → Type 0
  FitsActivityBy a =
      T a.id × (T a.name × (Within 0 2 a.kind × (IsNumber a.duration × (IfGiven IsNumber a.minutes × (IfGiven IsCount a.parent ×
      (T a.notes × ActivityRest T
      (a.calendar, (a.constraint, (a.deadline, (a.start, (a.finish, (a.percent, (a.duration_type, (a.remaining, a.uid))))))))))))))

  abbrev pub FitsResourceBy : Resource → Type 0
  FitsResourceBy r =
      T r.id × (T r.name × (Within 0 2 r.kind × (T r.unit × (IsNumber r.max_units × (IfGiven T r.calendar × IfGiven IsNumber r.price)))))

  abbrev pub FitsExpenseBy : Expense → Type 0
  FitsExpenseBy e = ExpenseParts T (e.activity, (e.name, (e.planned, (e.actual, (e.remaining, e.accrual)))))

abbrev pub FitsLink : Link → Type 0
FitsLink l = LinkParts (l.predecessor, (l.successor, (l.kind, (l.lag, (l.minutes, l.lag_kind)))))

abbrev pub FitsAssignment : Assignment → Type 0
FitsAssignment a = AssignmentParts (a.activity, (a.resource, (a.planned, (a.actual, (a.remaining, a.rate)))))

-- with texts in UTF-8

abbrev pub FitsProject : Project → Type 0
FitsProject = FitsProjectBy IsText

abbrev pub FitsCalendar : Calendar → Type 0
FitsCalendar = FitsCalendarBy IsText

abbrev pub FitsActivity : Activity → Type 0
FitsActivity = FitsActivityBy IsText

abbrev pub FitsResource : Resource → Type 0
FitsResource = FitsResourceBy IsText

abbrev pub FitsExpense : Expense → Type 0
FitsExpense = FitsExpenseBy IsText

pub good_resource : Good resource FitsResource
unfolding resource
good_resource =
    good_named _ _ (λ r. refl) (λ t. refl)
    (good_text & good_text & good_code 0 2 (omega arith) & good_text & good_number & good_optional good_text & good_optional good_number)

pub good_assignment : Good assignment FitsAssignment
unfolding assignment
good_assignment = good_named _ _ (λ a. refl) (λ t. refl) good_assignment_parts

pub good_expense : Good expense FitsExpense
unfolding expense
good_expense = good_named _ _ (λ e. refl) (λ t. refl) (good_expense_parts good_text)
