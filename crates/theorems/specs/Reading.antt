-- The model of a tree that is not refused fits its fields, so the bytes that reading gives decode to that model. Assumes nothing.
use Rattle.std.specs.Prelude.{if◌then◌else◌, ◌≡◌, Bool, true, false, not}
use Rattle.std.proofs.Common.{◌∙◌, arith}
use mathlib.Core.List.{List, [], ◌∷◌, ◌++◌, map}
use Rattle.std.specs.Prelude.{Option, Some, None}
use Prim.Native.Nat.{ℕ, suc, ◌+◌, ◌≤◌, ◌<◌}
use Rattle.std.proofs.Math.ListN.{length, length-append, length-map}
use Rattle.definition.specs.Base.{◌>>=◌, ◌or◌, given, keep, some?, present, same}
use Rattle.definition.specs.Ascii.{bytes}
use Rattle.definition.specs.Text.{Text}
use Rattle.definition.specs.Tree.{Element, all}
use Rattle.definition.specs.Field.{text_in, yes_in}
use Rattle.definition.specs.Model.{Calendar, Activity, Link, Resource, Assignment, Expense}
use Rattle.definition.specs.Calendar.{Named, elapsed_calendar}
use Rattle.definition.specs.Task.{Context, level_of, row_of, activity_of, activities_after, is_elapsed}
use Rattle.definition.specs.Link.{Fate, across, dangling, kept, link_of, fate_by, fate_of, fates, kept_of, links, entered}
use Rattle.definition.specs.Resource.{work_resources, cost_resources, resource_of, resources_after, assignment_elements, cost_of, assignment_from, assignment_of, assignments, expense_from, expense_of, same_expense, firsts, expenses}
use Rattle.definition.specs.Read.{calendars_of}
use Rattle.laws.specs.Each.{Each, empty, next, each_append}
use Rattle.laws.specs.FitLists.{each_flat, Perhaps, missing, there, perhaps_if, perhaps_bind, perhaps_any, each_present, each_last, each_row, last_row}
use Rattle.laws.specs.FitTrees.{keep_most}
use Rattle.laws.specs.FitNames.{calendars_in}
use Rattle.laws.specs.FitFields.{each_map_any}

-- ---- rows

row_in : (es : List Element) (u : Text) → Perhaps (λ n. n < length es) (row_of es u)
unfolding row_of
row_in es u = last_row (λ (x : ℕ × Element). same (text_in x.1 "UID" or []) u) es

pub present_most : {A : Type 0} (l : List (Option A)) → length (present l) ≤ length l
unfolding present
present_most [] = omega arith
present_most (None ∷ l) = omega (arith, present_most l)
present_most (Some x ∷ l) = omega (arith, present_most l)

-- ---- activities

pub activities_length : (x : Context) (entered : ℕ → Bool) (done : List Activity) (levels : List ℕ) (ts : List Element)
    → length (activities_after x entered done levels ts) ≡ length done + length ts
unfolding activities_after
activities_length x entered done levels [] = omega arith
activities_length x entered done levels (t ∷ ts) =
    let a = activity_of x (map (λ (a : Activity). a.id) done) levels (entered (length done)) t in
    activities_length x entered (done ++ (a ∷ [])) (levels ++ (level_of t ∷ [])) ts ∙ omega (arith, length-append done (a ∷ []))

-- ---- links

-- what holds of the link, where it is kept
abbrev FateIs : (Link → Type 0) → Fate → Type 0
FateIs P across = Unit {0}
FateIs P dangling = Unit {0}
FateIs P (kept l) = P l

kept_each : {P : Link → Type 0} {l : List Fate} → Each (FateIs P) l → Each P (kept_of l)
unfolding kept_of
kept_each empty = empty
kept_each (next {x = across} h hs) = kept_each hs
kept_each (next {x = dangling} h hs) = kept_each hs
kept_each (next {x = kept l} h hs) = next h (kept_each hs)

module _ (P : Link → Type 0) (x : Context) (is : (p row : ℕ) (l : Element) → p < length x.tasks → row < length x.tasks → P (link_of x p row l)) where
  fate_is : (row : ℕ) (l : Element) → row < 0 + length x.tasks → FateIs P (fate_of x row l)
  unfolding fate_of
  fate_is row l h = by (yes_in l "CrossProject")
    where
      found : {o : Option ℕ} → Perhaps (λ n. n < length x.tasks) o → FateIs P (fate_by x row l o)
      found missing = tt
      found (there {a = p} k) = is p row l k (omega arith)

      by : (t : Bool) → FateIs P (if t then across else fate_by x row l (text_in l "PredecessorUID" >>= row_of x.tasks))
      by true = tt
      by false = found (perhaps_any (text_in l "PredecessorUID") (row_in x.tasks))

  pub links_each : Each P (links x)
  unfolding links fates
  links_each =
      kept_each
      (each_flat (λ (p : ℕ × Element). map (fate_of x p.0) (all p.1 (bytes "PredecessorLink")))
      (λ p h. each_map_any (fate_of x p.0) (λ l. fate_is p.0 l h) (all p.1 (bytes "PredecessorLink")))
      (each_row 0 x.tasks))

pub kept_most : (l : List Fate) → length (kept_of l) ≤ length l
unfolding kept_of
kept_most [] = omega arith
kept_most (across ∷ l) = omega (arith, kept_most l)
kept_most (dangling ∷ l) = omega (arith, kept_most l)
kept_most (kept x ∷ l) = omega (arith, kept_most l)

-- ---- resources, assignments, expenses

pub resources_length : (x : Context) (done : List Resource) (rs : List Element) → length (resources_after x done rs) ≡ length done + length rs
unfolding resources_after
resources_length x done [] = omega arith
resources_length x done (r ∷ rs) =
    let a = resource_of x (map (λ (d : Resource). d.id) done) r in
    resources_length x (done ++ (a ∷ [])) rs ∙ omega (arith, length-append done (a ∷ []))

firsts_fit : {P : Expense → Type 0} {done es : List Expense} → Each P done → Each P es → Each P (firsts done es)
unfolding firsts
firsts_fit {P} {done} d empty = d
firsts_fit {P} {done} d (next {x = e} h hs) = firsts_fit {P = P} {done = if some? (same_expense e) done then done else done ++ (e ∷ [])} (by (some? (same_expense e) done)) hs
  where
    by : (t : Bool) → Each P (if t then done else done ++ (e ∷ []))
    by true = d
    by false = each_append d (next h empty)

module _ (x : Context) (root : Element) where
  pub assignments_each : {P : Assignment → Type 0}
      → ((t r : ℕ) (a : Element) → t < length x.tasks → r < length (work_resources root) → P (assignment_from t r a)) → Each P (assignments x root)
  unfolding assignments assignment_of
  assignments_each {P} is = each_present (each_map_any (assignment_of x root) one (assignment_elements root))
    where
      one : (a : Element) → Perhaps P (assignment_of x root a)
      one a =
          perhaps_if (given (cost_of root a)) missing
          (perhaps_bind (perhaps_any (text_in a "TaskUID") (row_in x.tasks))
          (λ t h. perhaps_bind (perhaps_any (text_in a "ResourceUID") (row_in (work_resources root))) (λ r k. there (is t r a h k))))

  pub expenses_each : {P : Expense → Type 0} {Q : Element → Type 0} → Each Q (cost_resources root)
      → ((t : ℕ) (r a : Element) → t < length x.tasks → Q r → P (expense_from t r a)) → Each P (expenses x root)
  unfolding expenses expense_of
  expenses_each {P} c is = firsts_fit empty (each_present (each_map_any (expense_of x root) one (assignment_elements root)))
    where
      one : (a : Element) → Perhaps P (expense_of x root a)
      one a =
          perhaps_bind (perhaps_any (text_in a "TaskUID") (row_in x.tasks))
          (λ t h. perhaps_bind (perhaps_any (text_in a "ResourceUID") (λ u. each_last (λ r. same (text_in r "UID" or []) u) c)) (λ r k. there (is t r a h k)))

pub firsts_most : (done es : List Expense) → length (firsts done es) ≤ length done + length es
unfolding firsts
firsts_most done [] = omega arith
firsts_most done (e ∷ es) = by (some? (same_expense e) done) (firsts_most done es) (firsts_most (done ++ (e ∷ [])) es)
  where
    by : (t : Bool) → length (firsts done es) ≤ length done + length es → length (firsts (done ++ (e ∷ [])) es) ≤ length (done ++ (e ∷ [])) + length es
        → length (firsts (if t then done else done ++ (e ∷ [])) es) ≤ length done + suc (length es)
    by true h k = omega arith
    by false h k = omega (arith, length-append done (e ∷ []))

-- ---- the whole

pub calendars_length : (x : Context) → length (calendars_of x) ≤ length x.built + 2
unfolding calendars_of
calendars_length x =
    let others = keep (λ (c : Calendar). not (same c.name x.main.name)) (calendars_in x.built) in
    omega (
      arith,
      length-append (x.main ∷ others) (if some? is_elapsed x.tasks then elapsed_calendar ∷ [] else []),
      one (some? is_elapsed x.tasks),
      keep_most (λ (c : Calendar). not (same c.name x.main.name)) (calendars_in x.built),
      length-map x.built (λ (n : Named). n.1),
    )
  where
    one : (t : Bool) → length (if t then elapsed_calendar ∷ [] else []) ≤ 1
    one true = omega arith
    one false = omega arith
