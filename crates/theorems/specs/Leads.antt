-- In a model that passes the check no row and no name leads nowhere: a parent is an activity above, link ends, assignments and expenses point at
-- rows that are there, and each calendar name used is some calendar's. Ids are distinct, and so are expenses by activity and name. And a model that
-- decodes and is so passes. Assumes nothing.
use Rattle.std.specs.Prelude.{◌≡◌, refl, Bool, true, false, ◌&&◌, ◌||◌, not, List, [], ◌∷◌, map, ℕ, zero, suc, ◌+◌, ◌<◌, ltb, eqb, length}
use Rattle.std.proofs.Common.{sym, ap, ◌∙◌, arith, ltb-true, lt-ltb, eq-eqb, eqb-true}
use Rattle.std.proofs.Math.Bool.{or-true, and-eq-true_iff}
use Rattle.std.specs.Prelude.{Option, Some, None}
use Rattle.laws.specs.Options.{Some-injective}
use Rattle.std.proofs.lemmas.Bool.{not-true}
use Rattle.std.specs.Prelude.{slice_get}
use Rattle.definition.specs.Base.{some?, every?, numbered, same}
use Rattle.definition.specs.Text.{Text}
use Rattle.definition.specs.Model.{Calendar, Activity, Link, Resource, Assignment, Expense, Model}
use Rattle.definition.specs.Resource.{same_expense}
use Rattle.definition.specs.Pack.{decode}
use Rattle.definition.specs.Check.{distinct, if_given, is_calendar, activity_right, link_right, assignment_right, keeps_list}
use Rattle.laws.specs.Bools.{and_left, and_right, both}
use Rattle.laws.specs.Options.{never}
use Rattle.laws.specs.Same.{same_refl, same_eq}

-- ---- what is said of a model

-- x stands at a row
abbrev pub At : {A : Type 0} → List A → ℕ → A → Type 0
At l row x = slice_get l row ≡ Some x

-- a row leads to something
pub record Leads {A : Type 0} (l : List A) (row : ℕ) : Type 0 where
  pub in_range : row < length l
  pub item : A
  pub is : At l row item

-- a name is some calendar's
pub record Named (l : List Calendar) (name : Text) : Type 0 where
  pub row : ℕ
  pub calendar : Calendar
  pub is : At l row calendar
  pub named : calendar.name ≡ name

pub record LeadsSomewhere (m : Model) : Type 0 where
  pub parent : (row p : ℕ) (a : Activity) → At m.activities row a → a.parent ≡ Some p → (p < row) × Leads m.activities p
  pub predecessor : (row : ℕ) (l : Link) → At m.links row l → Leads m.activities l.predecessor
  pub successor : (row : ℕ) (l : Link) → At m.links row l → Leads m.activities l.successor
  pub assigned : (row : ℕ) (a : Assignment) → At m.assignments row a → Leads m.activities a.activity
  pub assignee : (row : ℕ) (a : Assignment) → At m.assignments row a → Leads m.resources a.resource
  pub spent : (row : ℕ) (e : Expense) → At m.expenses row e → Leads m.activities e.activity
  pub activity_calendar : (row : ℕ) (a : Activity) (name : Text) → At m.activities row a → a.calendar ≡ Some name → Named m.calendars name
  pub resource_calendar : (row : ℕ) (r : Resource) (name : Text) → At m.resources row r → r.calendar ≡ Some name → Named m.calendars name

-- what has to differ does: two rows that agree are one
pub record IsDistinct (m : Model) : Type 0 where
  pub activities : (i j : ℕ) (a b : Activity) → At m.activities i a → At m.activities j b → a.id ≡ b.id → i ≡ j
  pub resources : (i j : ℕ) (a b : Resource) → At m.resources i a → At m.resources j b → a.id ≡ b.id → i ≡ j
  pub expenses : (i j : ℕ) (a b : Expense) → At m.expenses i a → At m.expenses j b → a.activity ≡ b.activity → a.name ≡ b.name → i ≡ j

-- ---- tests

infixr 6 ◌also◌
pub ◌also◌ : {a b : Bool} → a ≡ true → b ≡ true → (a && b) ≡ true
◌also◌ {a} {b} h k = (and-eq-true_iff a b).1 (h, k)

-- ---- lists

every_at : {A : Type 0} (p : A → Bool) (l : List A) → every? p l ≡ true → (i : ℕ) (x : A) → At l i x → p x ≡ true
unfolding every?
every_at p [] h i x e = never e
every_at p (y ∷ l) h zero x e = let z : y ≡ x = cc in ap p (sym z) ∙ and_left (p y) (every? p l) h
every_at p (y ∷ l) h (suc i) x e = every_at p l (and_right (p y) (every? p l) h) i x e

numbered_at : {A : Type 0} (n : ℕ) (l : List A) (i : ℕ) (x : A) → At l i x → At (numbered n l) i (n + i, x)
unfolding numbered
numbered_at n [] i x e = never e
numbered_at n (y ∷ l) zero x e = let z : y ≡ x = cc in let k : n ≡ n + 0 = omega arith in cc
numbered_at n (y ∷ l) (suc i) x e = let k : suc n + i ≡ n + suc i = omega arith in rw (← k) (numbered_at (suc n) l i x e)

-- what holds row by row holds of all
at_every : {A : Type 0} (p : A → Bool) (l : List A) → ((i : ℕ) (x : A) → At l i x → p x ≡ true) → every? p l ≡ true
unfolding every?
at_every p [] f = refl
at_every p (y ∷ l) f = f 0 y refl also at_every p l (λ i. f (suc i))

at_numbered : {A : Type 0} (p : ℕ × A → Bool) (n : ℕ) (l : List A) → ((i : ℕ) (x : A) → At l i x → p (n + i, x) ≡ true) → every? p (numbered n l) ≡ true
unfolding numbered every?
at_numbered p n [] f = refl
at_numbered p n (y ∷ l) f =
    let k : n + 0 ≡ n = omega arith in
    (rw k at (f 0 y refl)) also at_numbered p (suc n) l (λ i x e. let k : n + suc i ≡ suc n + i = omega arith in rw k at (f (suc i) x e))

pub map_at : {A B : Type 0} (f : A → B) (l : List A) (i : ℕ) (x : A) → At l i x → At (map f l) i (f x)
map_at f [] i x e = never e
map_at f (y ∷ l) zero x e = let z : y ≡ x = cc in ap (λ a. Some (f a)) z
map_at f (y ∷ l) (suc i) x e = map_at f l i x e

at_map : {A B : Type 0} (f : A → B) (l : List A) (i : ℕ) (y : B) → At (map f l) i y → (x : A) × (At l i x × (f x ≡ y))
at_map f [] i y e = never e
at_map f (x ∷ l) zero y e = (x, (refl, Some-injective (f x) y e))
at_map f (x ∷ l) (suc i) y e = at_map f l i y e

pub at_in : {A : Type 0} (l : List A) (i : ℕ) (x : A) → At l i x → i < length l
at_in [] i x e = never e
at_in (y ∷ l) zero x e = omega arith
at_in (y ∷ l) (suc i) x e = omega (arith, at_in l i x e)

pub leads : {A : Type 0} (l : List A) (i : ℕ) → i < length l → Leads l i
leads [] i h = absurd (omega arith)
leads (x ∷ l) zero h = record { in_range = h; item = x; is = refl }
leads (x ∷ l) (suc i) h = let t = leads l i (omega arith) in record { in_range = h; item = t.item; is = t.is }

leads_if : {A : Type 0} (l : List A) (i : ℕ) → ltb i (length l) ≡ true → Leads l i
leads_if l i h = leads l i (ltb-true i (length l) h)

-- an item that passes a test
pub record Passing {A : Type 0} (p : A → Bool) (l : List A) : Type 0 where
  pub row : ℕ
  pub item : A
  pub is : At l row item
  pub holds : p item ≡ true

pub passing : {A : Type 0} (p : A → Bool) (l : List A) → some? p l ≡ true → Passing p l
unfolding some?
passing p [] h = let z : ◌≡◌ {A = ℕ} 0 1 = cc in absurd (omega arith)
passing p (x ∷ l) h = go (p x) refl (passing p l) h
  where
    go : (t : Bool) → p x ≡ t → (some? p l ≡ true → Passing p l) → (t || some? p l) ≡ true → Passing p (x ∷ l)
    go true e f k = record { row = 0; item = x; is = refl; holds = e }
    go false e f k = let t = f k in record { row = suc t.row; item = t.item; is = t.is; holds = t.holds }

pub some_at : {A : Type 0} (p : A → Bool) (l : List A) (i : ℕ) (x : A) → At l i x → p x ≡ true → some? p l ≡ true
unfolding some?
some_at p [] i x e h = never e
some_at p (y ∷ l) zero x e h = let z : y ≡ x = cc in ap (λ (b : Bool). b || some? p l) (ap p z ∙ h)
some_at p (y ∷ l) (suc i) x e h = ap (λ (b : Bool). p y || b) (some_at p l i x e h) ∙ or-true (p y)

alone : {A : Type 0} (eq : A → A → Bool) (x : A) (l : List A) → (not (some? (eq x) l) && distinct eq l) ≡ true → some? (eq x) l ≡ true → ⊥
alone eq x l h k =
    let u : some? (eq x) l ≡ false = not-true (some? (eq x) l) (and_left (not (some? (eq x) l)) (distinct eq l) h) in
    let z : ◌≡◌ {A = ℕ} 0 1 = cc in
    omega arith

-- two that are the same stand at one row
distinct_at : {A : Type 0} (eq : A → A → Bool) (l : List A) → distinct eq l ≡ true → (i j : ℕ) (x y : A) → At l i x → At l j y → eq x y ≡ true → eq y x ≡ true → i ≡ j
unfolding distinct
distinct_at eq [] h i j x y e f k k' = never e
distinct_at eq (z ∷ l) h zero zero x y e f k k' = refl
distinct_at {A} eq (z ∷ l) h zero (suc j) x y e f k k' =
    let u : z ≡ x = cc in absurd (alone eq z l h (some_at (eq z) l j y f (ap (λ (a : A). eq a y) u ∙ k)))
distinct_at {A} eq (z ∷ l) h (suc i) zero x y e f k k' =
    let u : z ≡ y = cc in absurd (alone eq z l h (some_at (eq z) l i x e (ap (λ (a : A). eq a x) u ∙ k')))
distinct_at eq (z ∷ l) h (suc i) (suc j) x y e f k k' = ap suc (distinct_at eq l (and_right (not (some? (eq z) l)) (distinct eq l) h) i j x y e f k k')

at_distinct : {A : Type 0} (eq : A → A → Bool) (l : List A) → ((i j : ℕ) (x y : A) → At l i x → At l j y → eq x y ≡ true → i ≡ j) → distinct eq l ≡ true
unfolding distinct
at_distinct eq [] f = refl
at_distinct eq (z ∷ l) f = other (some? (eq z) l) refl also at_distinct eq l (λ i j x y e g k. omega (arith, f (suc i) (suc j) x y e g k))
  where
    other : (t : Bool) → some? (eq z) l ≡ t → not t ≡ true
    other false h = refl
    other true h = let t = passing (eq z) l h in absurd (omega (arith, f 0 (suc t.row) z t.item refl t.is t.holds))

pub same_if : {a b : Text} → a ≡ b → same a b ≡ true
same_if {a} e = ap (same a) (sym e) ∙ same_refl a

one_id : {A : Type 0} (f : A → Text) (l : List A) → distinct same (map f l) ≡ true → (i j : ℕ) (a b : A) → At l i a → At l j b → f a ≡ f b → i ≡ j
one_id f l h i j a b e g k = distinct_at same (map f l) h i j (f a) (f b) (map_at f l i a e) (map_at f l j b g) (same_if k) (same_if (sym k))

own_ids : {A : Type 0} (f : A → Text) (l : List A) → ((i j : ℕ) (a b : A) → At l i a → At l j b → f a ≡ f b → i ≡ j) → distinct same (map f l) ≡ true
own_ids f l h =
    at_distinct same (map f l) λ i j x y e g k.
    let (a, (u, v)) = at_map f l i x e in
    let (b, (w, z)) = at_map f l j y g in
    h i j a b u w (v ∙ same_eq x y k ∙ sym z)

pub expense_if : (a b : Expense) → a.activity ≡ b.activity → a.name ≡ b.name → same_expense a b ≡ true
expense_if a b k n = rw (eq-eqb a.activity b.activity k) (same_if n)

-- ---- the check's list, taken apart

split : {a b : Bool} {B : Type 0} → (b ≡ true → B) → (a && b) ≡ true → (a ≡ true) × B
split {a} {b} f h = (and_left a b h, f (and_right a b h))

abbrev Kept : Model → Type 0
Kept m =
    (distinct same (map (λ (a : Activity). a.id) m.activities) ≡ true)
    × ((every? (activity_right m) (numbered 0 m.activities) ≡ true)
    × ((distinct same (map (λ (r : Resource). r.id) m.resources) ≡ true)
    × ((every? (λ (r : Resource). if_given (is_calendar m) r.calendar) m.resources ≡ true)
    × ((every? (link_right m) m.links ≡ true)
    × ((every? (assignment_right m) m.assignments ≡ true)
    × ((every? (λ (e : Expense). ltb e.activity (length m.activities)) m.expenses ≡ true)
    × (distinct same_expense m.expenses ≡ true)))))))

kept : (m : Model) → keeps_list m ≡ true → Kept m
unfolding keeps_list
kept m h = split (split (split (split (split (split (both _ _)))))) h

activity_right_lem : (m : Model) (row : ℕ) (a : Activity) → activity_right m (row, a) ≡ true → (if_given (λ p. ltb p row) a.parent ≡ true) × (if_given (is_calendar m) a.calendar ≡ true)
unfolding activity_right
activity_right_lem m row a h = both _ _ h

link_right_lem : (m : Model) (l : Link) → link_right m l ≡ true → (ltb l.predecessor (length m.activities) ≡ true) × (ltb l.successor (length m.activities) ≡ true)
unfolding link_right
link_right_lem m l h = both _ _ h

assignment_right_lem : (m : Model) (a : Assignment) → assignment_right m a ≡ true → (ltb a.activity (length m.activities) ≡ true) × (ltb a.resource (length m.resources) ≡ true)
unfolding assignment_right
assignment_right_lem m a h = both _ _ h

if_given_lem : {A : Type 0} (p : A → Bool) (o : Option A) → if_given p o ≡ true → {a : A} → o ≡ Some a → p a ≡ true
if_given_lem p o h e = sym (ap (if_given p) e) ∙ h

calendar_named : (m : Model) (name : Text) → is_calendar m name ≡ true → Named m.calendars name
unfolding is_calendar
calendar_named m name h =
    let t = passing (λ (c : Calendar). same c.name name) m.calendars h in
    record { row = t.row; calendar = t.item; is = t.is; named = same_eq t.item.name name t.holds }

-- ---- a model that passes

module _ (m : Model) (h : keeps_list m ≡ true) where
  row_right : (row : ℕ) (a : Activity) → At m.activities row a → (if_given (λ p. ltb p row) a.parent ≡ true) × (if_given (is_calendar m) a.calendar ≡ true)
  row_right row a e =
      let z : 0 + row ≡ row = omega arith in
      activity_right_lem m row a (rw z at (every_at (activity_right m) (numbered 0 m.activities) (kept m h).1.0 row (0 + row, a) (numbered_at 0 m.activities row a e)))

  pub leads_somewhere : LeadsSomewhere m
  leads_somewhere =
      let (ids, (rows, (names, (used, (ends, (assigned, (spent, once))))))) = kept m h in
      record {
        parent = λ row p a e g.
            let l : p < row = ltb-true p row (if_given_lem (λ p. ltb p row) a.parent (row_right row a e).0 g) in
            (l, leads m.activities p (omega (arith, at_in m.activities row a e)));
        predecessor = λ row l e. leads_if m.activities l.predecessor (link_right_lem m l (every_at (link_right m) m.links ends row l e)).0;
        successor = λ row l e. leads_if m.activities l.successor (link_right_lem m l (every_at (link_right m) m.links ends row l e)).1;
        assigned = λ row a e. leads_if m.activities a.activity (assignment_right_lem m a (every_at (assignment_right m) m.assignments assigned row a e)).0;
        assignee = λ row a e. leads_if m.resources a.resource (assignment_right_lem m a (every_at (assignment_right m) m.assignments assigned row a e)).1;
        spent = λ row x e. leads_if m.activities x.activity (every_at (λ (e : Expense). ltb e.activity (length m.activities)) m.expenses spent row x e);
        activity_calendar = λ row a name e g. calendar_named m name (if_given_lem (is_calendar m) a.calendar (row_right row a e).1 g);
        resource_calendar = λ row r name e g. calendar_named m name (if_given_lem (is_calendar m) r.calendar (every_at (λ (r : Resource). if_given (is_calendar m) r.calendar) m.resources used row r e) g);
      }

  pub is_distinct : IsDistinct m
  is_distinct =
      let (ids, (rows, (names, (used, (ends, (assigned, (spent, once))))))) = kept m h in
      record {
        activities = one_id (λ (a : Activity). a.id) m.activities ids;
        resources = one_id (λ (r : Resource). r.id) m.resources names;
        expenses = λ i j a b e f k n. distinct_at same_expense m.expenses once i j a b e f (expense_if a b k n) (expense_if b a (sym k) (sym n));
      }

-- bytes that pass
pub record Passed (s : Text) : Type 0 where
  pub model : Model
  pub decodes : decode s ≡ Some model
  pub leads : LeadsSomewhere model
  pub distinct : IsDistinct model

-- ---- and the other way

given_if : {A : Type 0} (p : A → Bool) (o : Option A) → ((a : A) → o ≡ Some a → p a ≡ true) → if_given p o ≡ true
given_if p None f = refl
given_if p (Some a) f = f a refl

named_calendar : (m : Model) (name : Text) → Named m.calendars name → is_calendar m name ≡ true
unfolding is_calendar
named_calendar m name t = some_at (λ (c : Calendar). same c.name name) m.calendars t.row t.calendar t.is (same_if t.named)

in_if : {A : Type 0} {l : List A} {i : ℕ} → Leads l i → ltb i (length l) ≡ true
in_if {l = l} {i} t = lt-ltb i (length l) t.in_range

-- a model in which all leads somewhere and what has to differ does keeps the list
pub keeps : (m : Model) → LeadsSomewhere m → IsDistinct m → keeps_list m ≡ true
unfolding keeps_list activity_right link_right assignment_right
keeps m t d =
    own_ids (λ (a : Activity). a.id) m.activities d.activities
    also at_numbered (activity_right m) 0 m.activities right
    also own_ids (λ (r : Resource). r.id) m.resources d.resources
    also at_every (λ (r : Resource). if_given (is_calendar m) r.calendar) m.resources used
    also at_every (link_right m) m.links (λ i l e. in_if (t.predecessor i l e) also in_if (t.successor i l e))
    also at_every (assignment_right m) m.assignments (λ i a e. in_if (t.assigned i a e) also in_if (t.assignee i a e))
    also at_every (λ (e : Expense). ltb e.activity (length m.activities)) m.expenses (λ i x e. in_if (t.spent i x e))
    also at_distinct same_expense m.expenses once
  where
    right : (i : ℕ) (a : Activity) → At m.activities i a → activity_right m (0 + i, a) ≡ true
    right i a e =
        let z : 0 + i ≡ i = omega arith in
        rw z
        (given_if (λ p. ltb p i) a.parent (λ p g. lt-ltb p i (t.parent i p a e g).0)
        also given_if (is_calendar m) a.calendar (λ n g. named_calendar m n (t.activity_calendar i a n e g)))

    used : (i : ℕ) (r : Resource) → At m.resources i r → if_given (is_calendar m) r.calendar ≡ true
    used i r e = given_if (is_calendar m) r.calendar (λ n g. named_calendar m n (t.resource_calendar i r n e g))

    once : (i j : ℕ) (a b : Expense) → At m.expenses i a → At m.expenses j b → same_expense a b ≡ true → i ≡ j
    once i j a b e f k =
        let (p, q) = both (eqb a.activity b.activity) (same a.name b.name) k in
        d.expenses i j a b e f (eqb-true a.activity b.activity p) (same_eq a.name b.name q)
