-- Records that were put are read back without tests: their places by rows, and the texts at their fronts. Assumes nothing.
use Rattle.std.specs.Prelude.{◌≡◌, Bool, true, ℕ, zero, suc, ◌+◌, ◌≤◌, ◌<◌, ℤ}
use Rattle.std.proofs.Math.Path.{refl, ap}
use Rattle.std.proofs.Common.{sym, ◌∙◌, arith, length-append}
use Rattle.std.proofs.Math.Bool.{false}
use mathlib.Core.List.{List, [], ◌∷◌, ◌++◌, map, append_assoc}
use Rattle.std.specs.Prelude.{Option, Some, None}
use Rattle.std.specs.Prelude.{slice_get}
use Rattle.std.proofs.Math.ListN.{length}
use Rattle.std.proofs.lemmas.List.{length-map}
use Rattle.definition.specs.Base.{◌>>=◌, ◌or◌, count}
use Rattle.definition.specs.Bits.{Bits}
use Rattle.definition.specs.Text.{Text}
use Rattle.definition.specs.Date.{Date}
use Rattle.definition.specs.Format.{Format, Period, ◌⊗◌, via, depending, optional, times, put_all, whole, row, code, number, text}
use Rattle.definition.specs.Model.{Calendar, Activity, Resource, Expense}
use Rattle.definition.specs.Pack.{calendar, activity, resource, expense}
use Rattle.laws.specs.Options.{never, some_is}
use Rattle.laws.specs.Each.{Each, empty, next, each_front, each_back}
use Rattle.laws.specs.Formats.{Good, ◌&◌, Both, IfGiven, good_times, good_whole, good_count, all_append}
use Rattle.laws.specs.Fields.{good_code, good_number, good_optional}
use Rattle.laws.specs.Bools.{Within, differ as never_both}
use Rattle.laws.specs.FitRecords.{Short, IsCount, IsNumber, any_text, good_any, CalendarParts, ActivityRest, ExpenseParts, FitsCalendarBy, FitsActivityBy, FitsResourceBy, FitsExpenseBy, good_expense_parts}
use Rattle.laws.proofs.FitRecords.{good_calendar_parts, good_activity_rest}
use Rattle.bits.specs.Places.{at, place, past, inside, at_place, room_fits}
use Rattle.bits.specs.Reads.{rest, rest_in, spot, Reads}
use Rattle.bits.specs.Steps.{Puts, past_out}
use Rattle.bits.specs.declared.Place.{Place}
use Rattle.model.specs.Answers.{seen, read_at}
use Rattle.model.specs.Lax.{Like, left, like_then, like_times, like_back, like_whole, like_passed, regroup_like}
use Rattle.model.specs.Parts.{raw, text_by, record_of, calendar_parts, activity_parts, activity_rest, ActivityRest as ActivityTail, resource_parts, expense_parts, regroup_five}
use Rattle.model.specs.Passes.{Passes, pass_read, pass_like}
use Rattle.model.specs.Splits.{Stands, read_stands, stands_read, stands_whole, stands_first, stands_pass}
use Rattle.model.specs.declared.records.Kind.{Kind}
use Rattle.model.specs.declared.records.Kind.TheVariants.{Calendars, Activities, Resources, Expenses}
use Rattle.names.specs.Texts.{place_of_row, text_at, texts_at}
use Rattle.names.specs.Seen.{passed_to}
use Rattle.names.specs.Kept.{Kept, There, there_at, there_inside, there_split, there_reads, gets_there, kept_there, put_there}

-- ---- lists of records

module _ {A B : Type 0} (f : Format A) (g : Format B) (from : A → B) (same : (n : ℕ) (a : A) → f.put n a ≡ g.put n (from a)) where
  all_same : (n : ℕ) (xs : List A) → put_all f n xs ≡ put_all g n (map from xs)
  unfolding put_all
  all_same n [] = refl
  all_same n (x ∷ xs) =
      ap (λ (l : Bits). l ++ put_all f (n + length l) xs) (same n x) ∙ ap (λ (l : Bits). g.put n (from x) ++ l) (all_same (n + length (g.put n (from x))) xs)

each_map : {A B : Type 0} {P : B → Type 0} (from : A → B) {xs : List A} → Each (λ x. P (from x)) xs → Each P (map from xs)
each_map from empty = empty
each_map from (next h hs) = next h (each_map from hs)

all_one : {A : Type 0} (g : Format A) (n : ℕ) (x : A) (xs : List A) → put_all g n (x ∷ xs) ≡ g.put n x ++ put_all g (n + length (g.put n x)) xs
unfolding put_all
all_one g n x xs = refl

-- each item of a list with those before it
map_count : {A B : Type 0} (f : ℕ → B) (h : A → B) (ys xs : List A) → ((us : List A) (x : A) (vs : List A) → ys ++ xs ≡ us ++ (x ∷ vs) → f (length us) ≡ h x) → map f (count (length ys) (length xs)) ≡ map h xs
unfolding count
map_count f h ys [] e = refl
map_count {A} {B} f h ys (x ∷ xs) e =
    let z : (ys ++ (x ∷ [])) ++ xs ≡ ys ++ (x ∷ xs) = append_assoc ys (x ∷ []) xs in
    let n : length (ys ++ (x ∷ [])) ≡ suc (length ys) = length-append ys (x ∷ []) ∙ omega arith in
    let rest = map_count f h (ys ++ (x ∷ [])) xs (λ us y vs w. e us y vs (sym z ∙ w)) in
    ap (λ (b : B). b ∷ map f (count (suc (length ys)) (length xs))) (e ys x xs refl)
    ∙ ap (λ (l : List B). h x ∷ l) (ap (λ (k : ℕ). map f (count k (length xs))) (sym n) ∙ rest)

-- the item of a row, with those before and behind it
pub parted : {A : Type 0} (xs : List A) (i : ℕ) (x : A) → slice_get xs i ≡ Some x → (us : List A) × (vs : List A) × (xs ≡ us ++ (x ∷ vs)) × (length us ≡ i)
parted [] i x e = never e
parted {A} (y ∷ xs) zero x e = let z : y ≡ x = cc in ([], xs, ap (λ (a : A). a ∷ xs) z, refl)
parted {A} (y ∷ xs) (suc i) x e = let (us, vs, z, n) = parted xs i x e in (y ∷ us, vs, ap (λ (l : List A). y ∷ l) z, ap suc n)

split_at : {A : Type 0} (xs : List A) (i : ℕ) → i < length xs → (us : List A) × (x : A) × (vs : List A) × (xs ≡ us ++ (x ∷ vs)) × (length us ≡ i)
split_at [] i h = absurd (omega arith)
split_at (y ∷ xs) zero h = ([], y, xs, refl, refl)
split_at {A} (y ∷ xs) (suc i) h = let (us, x, vs, z, n) = split_at xs i (omega arith) in (y ∷ us, x, vs, ap (λ (l : List A). y ∷ l) z, ap suc n)

-- ---- one kind of records: the format without tests, what fits it, the text at the front

pub record Plain (kind : Kind) {B : Type 0} (g : Format B) (G : B → Type 0) : Type 0 where
  pub good : Good g G
  pub like : Like (record_of false kind) g

-- each begins with a text
pub record Fronts {B : Type 0} (g : Format B) (front : B → Text) : Type 0 where
  pub leads : {s : List ℕ} {p : Place} {b : B} → Stands g s p b → Stands raw s p (front b)

-- all items stand from a place to another, and fit
pub record Lies {B : Type 0} (g : Format B) (G : B → Type 0) (d : List ℕ) (p : Place) (xs : List B) (q : Place) : Type 0 where
  pub each : Each G xs
  pub there : There d p (put_all g (at p) xs) q

pub lies_kept : {B : Type 0} {g : Format B} {G : B → Type 0} {n : ℕ} {d d' : List ℕ} {p : Place} {xs : List B} {q : Place} → Kept n d d' → at q ≤ n → Lies g G d p xs q → Lies g G d' p xs q
lies_kept k h l = record { each = l.each; there = kept_there k l.there h }

-- what was put
pub put_lies : {A B : Type 0} (f : Format A) (g : Format B) {G : B → Type 0} (from : A → B) → ((n : ℕ) (a : A) → f.put n a ≡ g.put n (from a)) → (k : ℕ) {xs : List A} {d₀ : List ℕ} {p : Place} {d : List ℕ} {q : Place}
    → Puts (times k f) xs d₀ p d q → inside (length d) q ≡ true → Each (λ x. G (from x)) xs → Lies g G d p (map from xs) q
unfolding times
put_lies f g from same k {xs} {p = p} x i h =
    record { each = each_map from h; there = rw (all_same f g from same (at p) xs) at (put_there x i) }

module _ {kind : Kind} {B : Type 0} {g : Format B} {G : B → Type 0} (k : Plain kind g G) where
  module _ {d : List ℕ} {p : Place} {xs : List B} {q : Place} (l : Lies g G d p xs q) where
    pub lies_read : Reads (times (length xs) g) d p xs q
    unfolding times
    lies_read = there_reads (good_times (length xs) k.good) (record { many = refl; each = l.each }) l.there

    pub place_last : place_of_row kind d p (length xs) ≡ q
    unfolding place_of_row
    place_last = passed_to (pass_like (like_times (length xs) (like_back k.like)) (pass_read lies_read)) ∙ rw (there_inside l.there)

  -- the first ones
  module _ {d : List ℕ} {p : Place} (us vs : List B) {q : Place} (l : Lies g G d p (us ++ vs) q) where
    abbrev middle : Place
    middle = place (at p + length (put_all g (at p) us))

    cut : There d p (put_all g (at p) us) middle × There d middle (put_all g (at p + length (put_all g (at p) us)) vs) q
    cut = there_split (put_all g (at p) us) (put_all g (at p + length (put_all g (at p) us)) vs) (rw (all_append g (at p) us vs) at l.there)

    front_lies : Lies g G d p us middle
    front_lies = record { each = each_front us vs l.each; there = cut.0 }

    back_there : There d (place_of_row kind d p (length us)) (put_all g (at (place_of_row kind d p (length us))) vs) q
    back_there = rw (place_last front_lies, at_place (at p + length (put_all g (at p) us))) cut.1

    pub lies_front : Lies g G d p us (place_of_row kind d p (length us)) × (at (place_of_row kind d p (length us)) ≤ at q)
    lies_front = (rw (place_last front_lies) front_lies, omega (arith, there_at back_there))

  -- one item, those before it and those behind it
  module _ {d : List ℕ} {p : Place} (us : List B) (x : B) (vs : List B) {q : Place} (l : Lies g G d p (us ++ (x ∷ vs)) q) where
    row_fits : G x
    row_fits = first_each (each_back us (x ∷ vs) l.each)
      where
        first_each : Each G (x ∷ vs) → G x
        first_each (next h hs) = h

    pub row_there : (r : Place) × There d (place_of_row kind d p (length us)) (g.put (at (place_of_row kind d p (length us))) x) r × (at r ≤ at q)
    row_there =
        let m = at (place_of_row kind d p (length us)) in
        let b = g.put m x in
        let (s, t) = there_split b (put_all g (m + length b) vs) (rw (all_one g m x vs) at (back_there us (x ∷ vs) l)) in
        (place (m + length b), s, omega (arith, there_at t, at_place (m + length b)))

    -- it is read at its place
    pub row_reads : (r : Place) × Reads g d (place_of_row kind d p (length us)) x r × (inside (length d) r ≡ true) × (at r ≤ at q)
    row_reads = let (r, s, h) = row_there in (r, there_reads k.good row_fits s, there_inside s, h)

    pub row_stands : Stands g d (place_of_row kind d p (length us)) x
    row_stands = let (r, h, i, n) = row_reads in read_stands (rest_in d r (room_fits (length d) r 0 i)) h

  -- the texts at the fronts
  module _ {front : B → Text} (w : Fronts g front) where
    pub text_front : {d : List ℕ} {p : Place} (us : List B) (x : B) (vs : List B) {q : Place} → Lies g G d p (us ++ (x ∷ vs)) q → text_at kind d p (length us) ≡ front x
    unfolding text_at
    text_front us x vs l = ap (λ (o : Option Text). o or []) (stands_read (w.leads (row_stands us x vs l)))

    pub texts_front : {d : List ℕ} {p : Place} {xs : List B} {q : Place} → Lies g G d p xs q → texts_at kind d p (length xs) ≡ map front xs
    unfolding texts_at
    texts_front {d} {p} {xs} {q} l = map_count (text_at kind d p) front [] xs (λ us x vs e. text_front us x vs (rw e at l))

  -- what is read before a place
  abbrev pub Found : List ℕ → Place → ℕ → Place → Type 0
  Found d p n q = (xs : List B) × (length xs ≡ n) × Lies g G d p xs q

  pub lies_found : (d : List ℕ) (p : Place) (n : ℕ) → inside (length d) (place_of_row kind d p n) ≡ true → Found d p n (place_of_row kind d p n)
  unfolding place_of_row read_at times
  lies_found d p n h = by_rest (rest d p) refl
    where
      f : Format (List (Unit {0}))
      f = times n (record_of false kind)

      nowhere : place_of_row kind d p n ≡ past → Found d p n (place_of_row kind d p n)
      nowhere e = never_both (inside (length d) past) (ap (inside (length d)) (sym e) ∙ h) (past_out (length d))

      somewhere : (l m : Bits) → rest d p ≡ Some l → left (times n g) l ≡ Some m → place_of_row kind d p n ≡ spot d m → Found d p n (place_of_row kind d p n)
      somewhere l m z e w =
          let (y, u, v) = some_is ((times n g).get l) (λ x. Some x.1) m e in
          let m' : y.1 ≡ m = cc in
          let (a, b) = gets_there (good_times n k.good) d p z u in
          rw (w, ← m') (y.0, a.many, record { each = a.each; there = b })

      by_get : (l : Bits) → rest d p ≡ Some l → (o : Option (List (Unit {0}) × Bits)) → f.get l ≡ o → Found d p n (place_of_row kind d p n)
      by_get l z None e = nowhere (ap (λ (o : Option Bits). (seen d (o >>= f.get)).1) z ∙ ap (λ (o : Option (List (Unit {0}) × Bits)). (seen d o).1) e)
      by_get l z (Some x) e =
          somewhere l x.1 z (sym ((like_times n k.like).like l) ∙ ap (λ (o : Option (List (Unit {0}) × Bits)). o >>= λ y. Some y.1) e)
          (ap (λ (o : Option Bits). (seen d (o >>= f.get)).1) z ∙ ap (λ (o : Option (List (Unit {0}) × Bits)). (seen d o).1) e)

      by_rest : (o : Option Bits) → rest d p ≡ o → Found d p n (place_of_row kind d p n)
      by_rest None z = nowhere (ap (λ (o : Option Bits). (seen d (o >>= f.get)).1) z)
      by_rest (Some l) z = by_get l z (f.get l) refl

  module _ {n : ℕ} {d d' : List ℕ} (u : Kept n d d') (p : Place) (rows : ℕ) (i' : inside (length d) (place_of_row kind d p rows) ≡ true) (h : at (place_of_row kind d p rows) ≤ n) where
    -- they are read where they were
    pub place_kept : place_of_row kind d' p rows ≡ place_of_row kind d p rows
    place_kept =
        let (xs, e, l) = lies_found d p rows i' in
        ap (place_of_row kind d' p) (sym e) ∙ place_last (lies_kept u h l)

    pub row_kept : (i : ℕ) → i < rows → place_of_row kind d' p i ≡ place_of_row kind d p i
    row_kept i h' =
        let (xs, e, l) = lies_found d p rows i' in
        let (us, x, vs, z, m) = split_at xs i (omega arith) in
        let (a, b) = lies_front us (x ∷ vs) (rw z at l) in
        rw (← m) (place_last (lies_kept u (omega arith) a))

    pub texts_kept : {front : B → Text} → Fronts g front → texts_at kind d' p rows ≡ texts_at kind d p rows
    texts_kept w =
        let (xs, e, l) = lies_found d p rows i' in
        ap (texts_at kind d' p) (sym e) ∙ texts_front w (lies_kept u h l) ∙ sym (texts_front w l) ∙ ap (texts_at kind d p) e

    pub text_kept : {front : B → Text} → Fronts g front → (i : ℕ) → i < rows → text_at kind d' p i ≡ text_at kind d p i
    text_kept w i h' =
        let (xs, e, l) = lies_found d p rows i' in
        let (us, x, vs, z, m) = split_at xs i (omega arith) in
        let l' = rw z at l in
        rw (← m) (text_front w us x vs (lies_kept u h l') ∙ sym (text_front w us x vs l'))

-- ---- the kinds

pub good_raw : Good raw Short
unfolding raw any_text
good_raw = good_any

abbrev pub CalendarFields : Type 0
CalendarFields = Text × (List Bool × (List (List Period) × (List Date × (List Date × List (Date × List Period)))))

abbrev pub calendar_fields : Calendar → CalendarFields
calendar_fields c = (c.name, (c.week, (c.hours, (c.holidays, (c.extra_days, c.exceptions)))))

abbrev pub ActivityFields : Type 0
ActivityFields = Text × (Text × (ℕ × (ℤ × (Option ℤ × (Option ℕ × (Text × ActivityTail raw))))))

abbrev pub activity_fields : Activity → ActivityFields
activity_fields a = (
  a.id,
  (
    a.name,
    (
      a.kind,
      (
        a.duration,
        (
          a.minutes,
          (
            a.parent,
            (
              a.notes,
              (a.calendar, (a.constraint, (a.deadline, (a.start, (a.finish, (a.percent, (a.duration_type, (a.remaining, a.uid)))))))),
            ),
          ),
        ),
      ),
    ),
  ),
)

abbrev pub ResourceFields : Type 0
ResourceFields = Text × (Text × (ℕ × (Text × (ℤ × (Option Text × Option ℤ)))))

abbrev pub resource_fields : Resource → ResourceFields
resource_fields r = (r.id, (r.name, (r.kind, (r.unit, (r.max_units, (r.calendar, r.price))))))

abbrev pub ExpenseFields : Type 0
ExpenseFields = ℕ × (Text × (ℤ × (ℤ × (Option ℤ × ℕ))))

abbrev pub expense_fields : Expense → ExpenseFields
expense_fields e = (e.activity, (e.name, (e.planned, (e.actual, (e.remaining, e.accrual)))))

-- with any bytes for texts
abbrev pub plain_calendars : Format CalendarFields
plain_calendars = whole (calendar_parts raw)

abbrev activity_by : Format Text → Format ActivityFields
activity_by t = t ⊗ t ⊗ code 0 2 ⊗ number ⊗ optional number ⊗ optional row ⊗ t ⊗ activity_rest t

abbrev resource_by : Format Text → Format ResourceFields
resource_by t = t ⊗ t ⊗ code 0 2 ⊗ t ⊗ number ⊗ optional t ⊗ optional number

abbrev pub plain_activities : Format ActivityFields
plain_activities = whole (activity_by raw)

abbrev pub plain_resources : Format ResourceFields
plain_resources = whole (resource_by raw)

abbrev pub plain_expenses : Format ExpenseFields
plain_expenses = whole (expense_parts raw)

abbrev pub FitsActivityFields : ActivityFields → Type 0
FitsActivityFields = Both Short (Both Short (Both (Within 0 2) (Both IsNumber (Both (IfGiven IsNumber) (Both (IfGiven IsCount) (Both Short (ActivityRest Short)))))))

abbrev pub FitsResourceFields : ResourceFields → Type 0
FitsResourceFields = Both Short (Both Short (Both (Within 0 2) (Both Short (Both IsNumber (Both (IfGiven Short) (IfGiven IsNumber))))))

pub plain_calendars_lem : Plain Calendars plain_calendars (CalendarParts Short)
unfolding record_of text_by calendar_parts
plain_calendars_lem = record { good = good_whole (good_calendar_parts good_raw); like = like_passed plain_calendars }

pub plain_activities_lem : Plain Activities plain_activities FitsActivityFields
unfolding record_of text_by activity_parts activity_rest
plain_activities_lem = record {
  good = good_whole (good_raw & good_raw & good_code 0 2 (omega arith) & good_number & good_optional good_number & good_optional good_count & good_raw & good_activity_rest good_raw);
  like = like_then (like_passed _) (like_whole (regroup_like (regroup_five raw raw (code 0 2) number (optional number) _)));
}

pub plain_resources_lem : Plain Resources plain_resources FitsResourceFields
unfolding record_of text_by resource_parts
plain_resources_lem = record {
  good = good_whole (good_raw & good_raw & good_code 0 2 (omega arith) & good_raw & good_number & good_optional good_raw & good_optional good_number);
  like = like_then (like_passed _) (like_whole (regroup_like (regroup_five raw raw (code 0 2) raw number _)));
}

pub plain_expenses_lem : Plain Expenses plain_expenses (ExpenseParts Short)
unfolding record_of text_by expense_parts
plain_expenses_lem = record { good = good_whole (good_expense_parts good_raw); like = like_passed plain_expenses }

-- the bits are those of the definition
pub same_calendars : (n : ℕ) (c : Calendar) → (whole calendar).put n c ≡ plain_calendars.put n (calendar_fields c)
unfolding whole calendar calendar_parts via ◌⊗◌ text raw
same_calendars n c = refl

pub same_activities : (n : ℕ) (a : Activity) → (whole activity).put n a ≡ plain_activities.put n (activity_fields a)
unfolding whole activity activity_rest via ◌⊗◌ text raw optional depending
same_activities n a = by_name a.calendar
  where
    fields_with : Option Text → ActivityFields
    fields_with o = (
      a.id,
      (
        a.name,
        (
          a.kind,
          (
            a.duration,
            (
              a.minutes,
              (
                a.parent,
                (
                  a.notes,
                  (o, (a.constraint, (a.deadline, (a.start, (a.finish, (a.percent, (a.duration_type, (a.remaining, a.uid)))))))),
                ),
              ),
            ),
          ),
        ),
      ),
    )

    by_name : (o : Option Text) → (whole (activity_by text)).put n (fields_with o) ≡ plain_activities.put n (fields_with o)
    by_name None = refl
    by_name (Some s) = refl

pub same_resources : (n : ℕ) (r : Resource) → (whole resource).put n r ≡ plain_resources.put n (resource_fields r)
unfolding whole resource via ◌⊗◌ text raw optional depending
same_resources n r = by_name r.calendar
  where
    fields_with : Option Text → ResourceFields
    fields_with o = (r.id, (r.name, (r.kind, (r.unit, (r.max_units, (o, r.price))))))

    by_name : (o : Option Text) → (whole (resource_by text)).put n (fields_with o) ≡ plain_resources.put n (fields_with o)
    by_name None = refl
    by_name (Some s) = refl

same_expenses : (n : ℕ) (e : Expense) → (whole expense).put n e ≡ plain_expenses.put n (expense_fields e)
unfolding whole expense expense_parts via ◌⊗◌ text raw
same_expenses n e = refl

-- the text at the front
pub front_calendars : Fronts plain_calendars (λ t. t.0)
unfolding calendar_parts
front_calendars = record { leads = λ h. stands_first _ (stands_whole h) }

pub front_activities : Fronts plain_activities (λ t. t.0)
front_activities = record { leads = λ h. stands_first _ (stands_whole h) }

pub front_resources : Fronts plain_resources (λ t. t.0)
front_resources = record { leads = λ h. stands_first _ (stands_whole h) }

-- ---- what others cite

map_two : {A B C : Type 0} (f : A → B) (h : B → C) (xs : List A) → map h (map f xs) ≡ map (λ x. h (f x)) xs
map_two f h [] = refl
map_two {C = C} f h (x ∷ xs) = ap (λ (l : List C). h (f x) ∷ l) (map_two f h xs)

module _ (k : ℕ) {xs : List Calendar} {d₀ : List ℕ} {p : Place} {d : List ℕ} {q : Place} (x : Puts (times k (whole calendar)) xs d₀ p d q) (i : inside (length d) q ≡ true) (h : Each (FitsCalendarBy Short) xs) where
  pub calendars_lie : Lies plain_calendars (CalendarParts Short) d p (map calendar_fields xs) q
  calendars_lie = put_lies (whole calendar) plain_calendars calendar_fields same_calendars k x i h

  pub texts_calendars : texts_at Calendars d p (length xs) ≡ map (λ (c : Calendar). c.name) xs
  texts_calendars = ap (texts_at Calendars d p) (sym (length-map xs calendar_fields)) ∙ texts_front plain_calendars_lem front_calendars calendars_lie ∙ map_two calendar_fields (λ t. t.0) xs

module _ (k : ℕ) {xs : List Activity} {d₀ : List ℕ} {p : Place} {d : List ℕ} {q : Place} (x : Puts (times k (whole activity)) xs d₀ p d q) (i : inside (length d) q ≡ true) (h : Each (FitsActivityBy Short) xs) where
  pub activities_lie : Lies plain_activities FitsActivityFields d p (map activity_fields xs) q
  activities_lie = put_lies (whole activity) plain_activities activity_fields same_activities k x i h

  pub texts_activities : texts_at Activities d p (length xs) ≡ map (λ (a : Activity). a.id) xs
  texts_activities = ap (texts_at Activities d p) (sym (length-map xs activity_fields)) ∙ texts_front plain_activities_lem front_activities activities_lie ∙ map_two activity_fields (λ t. t.0) xs

module _ (k : ℕ) {xs : List Resource} {d₀ : List ℕ} {p : Place} {d : List ℕ} {q : Place} (x : Puts (times k (whole resource)) xs d₀ p d q) (i : inside (length d) q ≡ true) (h : Each (FitsResourceBy Short) xs) where
  pub resources_lie : Lies plain_resources FitsResourceFields d p (map resource_fields xs) q
  resources_lie = put_lies (whole resource) plain_resources resource_fields same_resources k x i h

  pub texts_resources : texts_at Resources d p (length xs) ≡ map (λ (r : Resource). r.id) xs
  texts_resources = ap (texts_at Resources d p) (sym (length-map xs resource_fields)) ∙ texts_front plain_resources_lem front_resources resources_lie ∙ map_two resource_fields (λ t. t.0) xs

module _ (k : ℕ) {xs : List Expense} {d₀ : List ℕ} {p : Place} {d : List ℕ} {q : Place} (x : Puts (times k (whole expense)) xs d₀ p d q) (i : inside (length d) q ≡ true) (h : Each (FitsExpenseBy Short) xs) where
  pub expenses_lie : Lies plain_expenses (ExpenseParts Short) d p (map expense_fields xs) q
  expenses_lie = put_lies (whole expense) plain_expenses expense_fields same_expenses k x i h

  pub run_expenses : Reads (times (length xs) plain_expenses) d p (map expense_fields xs) q
  run_expenses = rw (length-map xs expense_fields) at (lies_read plain_expenses_lem expenses_lie)

-- a text that stands there, as it is answered, and by its bytes
module _ {s : List ℕ} {p : Place} {t : Text} (h : Stands raw s p t) where
  pub raw_stands : ((read_at raw s p).0 or []) ≡ t
  raw_stands = ap (λ (o : Option Text). o or []) (stands_read h)

-- an expense's row, and its name behind it
pub expense_key : {s : List ℕ} {p : Place} {t : ExpenseFields} → Stands plain_expenses s p t → Stands row s p t.0 × ((q : Place) → Passes row s p q → Stands raw s q t.1.0)
unfolding expense_parts
expense_key h = let w = stands_whole h in (stands_first _ w, λ q i. stands_first _ (stands_pass w i))
