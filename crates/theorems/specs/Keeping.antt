-- The model of any element keeps the check's list, so what reading gives passes the check. Assumes nothing.
use Rattle.std.specs.Prelude.{if◌then◌else◌, ◌≡◌, Bool, false, ◌&&◌, ◌||◌, not, eqb}
use Rattle.std.proofs.Math.Path.{refl}
use Rattle.std.proofs.Common.{sym, ap, ◌∙◌, arith}
use Rattle.std.proofs.Math.Bool.{true, or-true}
use mathlib.Core.List.{List, [], ◌∷◌, ◌++◌, map, map-append}
use Rattle.std.specs.Prelude.{Option, Some}
use Prim.Native.Nat.{ℕ, suc, ◌+◌, ◌<◌}
use borrow.Author.Tests.{lt-ltb, eqb-true}
use Rattle.std.proofs.Math.Dec.{ltb}
use Rattle.std.proofs.Math.ListN.{length}
use Rattle.definition.specs.Base.{◌>>=◌, when, keep, some?, numbered, same}
use Rattle.definition.specs.Ascii.{bytes}
use Rattle.definition.specs.Text.{Text}
use Rattle.definition.specs.Tree.{Element}
use Rattle.definition.specs.Field.{text_in}
use Rattle.definition.specs.Model.{Calendar, Expense, Model}
use Rattle.definition.specs.Calendar.{Named, name_of, elapsed_name, elapsed_calendar}
use Rattle.definition.specs.Task.{Context, context_of, level_of, parent_of, is_elapsed, unless_main, calendar_name_of, activity_of}
use Rattle.definition.specs.Resource.{same_expense, firsts}
use Rattle.definition.specs.Read.{calendars_of, model_of}
use Rattle.definition.specs.Check.{distinct, if_given, is_calendar, activity_right}
use Rattle.laws.specs.Bools.{both}
use Rattle.laws.specs.Each.{Each, each_less}
use Rattle.laws.specs.Same.{same_refl, same_eq}
use Rattle.laws.specs.Tests.{some_both, some_map, some_keep, OneOf, each_some, distinct_add}
use Rattle.laws.specs.FitLists.{Perhaps, missing, there, perhaps_when, perhaps_bind, perhaps_any, perhaps_less, last_row}
use Rattle.laws.specs.FitNames.{calendars_in}
use Rattle.laws.specs.FitCalendars.{name_of_lem}
use Rattle.theorems.specs.Leads.{◌also◌, same_if, expense_if}

if_perhaps : {A : Type 0} (p : A → Bool) {o : Option A} → Perhaps (λ a. p a ≡ true) o → if_given p o ≡ true
if_perhaps p missing = refl
if_perhaps p (there h) = h

pub numbered_end : {A : Type 0} (n : ℕ) (l : List A) (x : A) → numbered n (l ++ (x ∷ [])) ≡ numbered n l ++ ((n + length l, x) ∷ [])
unfolding numbered
numbered_end n [] x = let e : n ≡ n + 0 = omega arith in rw (← e)
numbered_end {A} n (y ∷ l) x =
    let e : suc n + length l ≡ n + suc (length l) = omega arith in
    ap (λ (k : List (ℕ × A)). (n, y) ∷ k) (numbered_end (suc n) l x ∙ rw e)

-- ---- ids

-- one more with an id that is free
pub ids_add : {A : Type 0} (id : A → Text) (done : List A) (a : A) → distinct same (map id done) ≡ true → some? (same (id a)) (map id done) ≡ false
    → distinct same (map id (done ++ (a ∷ []))) ≡ true
ids_add id done a d f =
    rw (map-append id done (a ∷ [])) (distinct_add same (λ x y e. same_if (sym (same_eq x y e))) (map id done) (id a) d f)

-- ---- calendars' names

module _ (x : Context) where
  -- a name is some calendar's
  abbrev pub known : Text → Bool
  known n = some? (λ (c : Calendar). same c.name n) (calendars_of x)

  -- where it is not the main one's
  abbrev pub Known : Text → Type 0
  Known n = not (same n x.main.name) ≡ true → known n ≡ true

  abbrev others : List Calendar
  others = keep (λ (c : Calendar). not (same c.name x.main.name)) (calendars_in x.built)

  abbrev elapsed : List Calendar
  elapsed = if some? is_elapsed x.tasks then elapsed_calendar ∷ [] else []

  known_is : (n : Text) → known n ≡ (some? (λ (c : Calendar). same c.name n) (x.main ∷ others) || some? (λ (c : Calendar). same c.name n) elapsed)
  unfolding calendars_of
  known_is n = some_both (λ (c : Calendar). same c.name n) (x.main ∷ others) elapsed

  elapsed_known : some? is_elapsed x.tasks ≡ true → known elapsed_name ≡ true
  unfolding elapsed_calendar some?
  elapsed_known h = known_is elapsed_name ∙ rw (h, same_refl elapsed_name) (or-true (some? (λ (c : Calendar). same c.name elapsed_name) (x.main ∷ others)))

  others_known : (n : Named) → OneOf x.built n → not (same n.1.name x.main.name) ≡ true → some? (λ (c : Calendar). same c.name n.1.name) others ≡ true
  others_known n s h =
      let q : Calendar → Bool = λ c. same c.name n.1.name in
      let test : Calendar → Bool = λ c. not (same c.name x.main.name) in
      some_keep q test (calendars_in x.built)
      ∙ some_map (λ c. test c && q c) (λ (n : Named). n.1) x.built
      ∙ s (λ (n : Named). test n.1 && q n.1) (h also same_refl n.1.name)

  pub built_known : Each (λ (n : Named). Known n.1.name) x.built
  unfolding some?
  built_known = each_less (λ n s h. known_is n.1.name ∙ rw (others_known n s h, or-true (same x.main.name n.1.name))) (each_some x.built)

  task_known : (t : Element) → OneOf x.tasks t → Perhaps Known (calendar_name_of x t)
  task_known t s = by (is_elapsed t) refl
    where
      by : (b : Bool) → is_elapsed t ≡ b
          → Perhaps Known (if b then Some elapsed_name else (text_in t "CalendarUID" >>= λ u. when (not (same u (bytes "-1"))) u >>= name_of x.built))
      by true e = there (λ h. elapsed_known (s is_elapsed e))
      by false e = perhaps_any (text_in t "CalendarUID") (λ u. perhaps_any (when (not (same u (bytes "-1"))) u) (λ v. name_of_lem {T = Known} v built_known))

  pub used_known : {o : Option Text} → Perhaps Known o → if_given known (o >>= unless_main x) ≡ true
  used_known h = if_perhaps known (perhaps_bind h (λ n k. perhaps_when (not (same n x.main.name)) n k))

-- ---- expenses

expense_back : (e f : Expense) → same_expense e f ≡ true → same_expense f e ≡ true
expense_back e f h =
    let (a, n) = both (eqb e.activity f.activity) (same e.name f.name) h in
    expense_if f e (sym (eqb-true e.activity f.activity a)) (sym (same_eq e.name f.name n))

pub firsts_distinct : (done es : List Expense) → distinct same_expense done ≡ true → distinct same_expense (firsts done es) ≡ true
unfolding firsts
firsts_distinct done [] d = d
firsts_distinct done (e ∷ es) d = firsts_distinct (if some? (same_expense e) done then done else done ++ (e ∷ [])) es (by (some? (same_expense e) done) refl)
  where
    by : (t : Bool) → some? (same_expense e) done ≡ t → distinct same_expense (if t then done else done ++ (e ∷ [])) ≡ true
    by true k = d
    by false k = distinct_add same_expense expense_back done e d k

-- ---- activities and resources

module _ (root : Element) where
  abbrev x : Context
  x = context_of root

  abbrev m : Model
  m = model_of root

  pub activity_right_lem : (ids : List Text) (levels : List ℕ) (enters : Bool) (t : Element) (row : ℕ) → length levels ≡ row → OneOf x.tasks t
      → activity_right m (row, activity_of x ids levels enters t) ≡ true
  unfolding activity_right is_calendar activity_of model_of parent_of
  activity_right_lem ids levels enters t row e s =
      if_perhaps (λ p. ltb p row) (perhaps_less below (last_row (λ (y : ℕ × ℕ). ltb y.1 (level_of t)) levels)) also used_known x (task_known x t s)
    where
      below : (p : ℕ) → p < length levels → ltb p row ≡ true
      below p h = lt-ltb p row (omega arith)
