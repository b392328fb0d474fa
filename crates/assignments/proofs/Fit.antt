-- What is made of a tree's elements fits its fields, so it is read back as it was put. Assumes nothing.
use Rattle.std.specs.Prelude.{if◌then◌else◌}
use Rattle.index.specs.declared.Table.{Table}
use Rattle.std.proofs.Common.{◌≡◌, ℕ, ◌+◌, ◌^◌, ◌<◌, ◌≤◌, Bool, true, false, List, [], ◌∷◌, ◌++◌, map, length, refl, arith, length-append}
use Rattle.std.specs.Prelude.{Option, Some, None}
use lib.ListN.{length-map}
use Rattle.definition.specs.Ascii.{bytes}
use Rattle.definition.specs.Base.{◌>>=◌, present, some?}
use Rattle.definition.specs.Text.{Text}
use Rattle.definition.specs.Tree.{Element}
use Rattle.definition.specs.Field.{text_in}
use Rattle.definition.specs.Model.{Resource, Expense}
use Rattle.definition.specs.Calendar.{Named}
use Rattle.definition.specs.Refusal.{most_elements}
use Rattle.definition.specs.Task.{Context}
use Rattle.definition.specs.Resource.{is_resource, is_cost, expense_from, same_expense, firsts, resource_of, resources_after}
use Rattle.laws.specs.Bits.{Bytes}
use Rattle.laws.specs.Each.{Each, empty, next, each_append}
use Rattle.laws.specs.FitRecords.{Short, FitsResourceBy, FitsExpenseBy}
use Rattle.laws.specs.FitLists.{Perhaps, missing, there, perhaps_any, each_keep, each_last}
use Rattle.laws.specs.FitTrees.{Small, slim_texts, holds_child, holds_in}
use Rattle.laws.specs.FitResources.{fit_expense, fit_resource}
use Rattle.tree.specs.Root.{root_at}
use Rattle.names.specs.Context.{context_at, calendars_before}
use Rattle.names.specs.Naming.{Finds}
use Rattle.index.specs.Chains.{place_of}
use Rattle.rows.specs.Rows.{has_uid}
use Rattle.rows.specs.Small.{small_at, small_root}
use Rattle.rows.specs.Tables.{sought_in, cost_in}
use Rattle.assignments.specs.declared.section.Tables.{Tables}
use Rattle.assignments.specs.declared.resource.Section.{Section}
use Rattle.assignments.specs.Finders.{task_by, expense_for}
use Rattle.assignments.specs.Records.{finders_at}
use Rattle.assignments.specs.Resources.{FewResources}

-- ---- expenses

module _ (t : Tables) (b : Bytes t.root.tree.now) (w : List ℕ) where
  cost_small : (u : Text) → Perhaps Small ((finders_at w t).cost u)
  unfolding cost_in
  cost_small u = by t.cost
    where
      by : (m : Option Table) → Perhaps Small (cost_in t.root.tree.now (root_at t.root) w m u)
      by None = each_last (has_uid u) (each_keep is_cost (each_keep is_resource (holds_in (holds_child (small_root t.root b) (bytes "Resources")) (bytes "Resource"))))
      by (Some v) = perhaps_any {P = Small} (sought_in t.root.tree.now w v u) (λ r. there (small_at t.root.tree.now b (place_of w v r)))

  pub expense_fits : (a : Element) → ((e : Expense) → expense_for (finders_at w t) a ≡ Some e → e.activity < 2 ^ 32) → Perhaps (FitsExpenseBy Short) (expense_for (finders_at w t) a)
  unfolding expense_for expense_from
  expense_fits a h = by (task_by (finders_at w t) a) (perhaps_any {P = Small} (text_in a "ResourceUID") cost_small) h
    where
      by : (o : Option ℕ) {c : Option Element} → Perhaps Small c → ((e : Expense) → (o >>= λ n. c >>= λ r. Some (expense_from n r a)) ≡ Some e → e.activity < 2 ^ 32)
          → Perhaps (FitsExpenseBy Short) (o >>= λ n. c >>= λ r. Some (expense_from n r a))
      by None k h = missing
      by (Some n) missing h = missing
      by (Some n) (there {a = r} k) h = there {a = expense_from n r a} (fit_expense slim_texts n a k (h (expense_from n r a) refl))

-- those so far fit, and with the elements that are left they are no more than n
pub record FineExpenses (n : ℕ) (left : List Element) (xs : List Expense) : Type 0 where
  pub fit : Each (FitsExpenseBy Short) xs
  pub few : length xs + length left ≤ n

pub fine_none : {n : ℕ} {es : List Element} → length es ≤ n → FineExpenses n es []
fine_none h = record { fit = empty; few = omega arith }

pub fine_more : {n : ℕ} (e : Element) {fs : List Element} {o : Option Expense} → Perhaps (FitsExpenseBy Short) o → (xs : List Expense) → FineExpenses n (e ∷ fs) xs → FineExpenses n fs (firsts xs (present (o ∷ [])))
unfolding present firsts
fine_more e missing xs f = record { fit = f.fit; few = omega (arith, f.few) }
fine_more {n} e {fs} (there {a = x} k) xs f = by (some? (same_expense x) xs)
  where
    by : (t : Bool) → FineExpenses n fs (if t then xs else xs ++ (x ∷ []))
    by true = record { fit = f.fit; few = omega (arith, f.few) }
    by false =
        let m = length-append xs (x ∷ []) in
        record { fit = each_append f.fit (next k empty); few = omega (arith, f.few) }

-- ---- resources

module _ {A : Type 0} {P : A → Type 0} {x : A} {l : List A} where
  pub each_head : Each P (x ∷ l) → P x
  each_head (next h k) = h

  pub each_rest : Each P (x ∷ l) → Each P l
  each_rest (next h k) = k

-- those so far fit, and with those that are left they are no more than the rows
pub record FineResources (rows : ℕ) (left : List Element) (xs : List Resource) : Type 0 where
  pub fit : Each (FitsResourceBy Short) xs
  pub few : length xs + length left ≤ rows
  pub most : rows ≤ most_elements

pub fine_all : (es : List Element) {fs : List Element} → length fs ≡ length es → length es ≤ most_elements → FineResources (length es) fs []
fine_all es e h = record { fit = empty; few = omega arith; most = h }

pub fine_on : {rows : ℕ} (x : Context) → Each (λ (n : Named). Short n.1.name) x.built → {e : Element} (fs : List Element) → Small e → (xs : List Resource) → FineResources rows (e ∷ fs) xs
    → FineResources rows fs (resources_after x xs (e ∷ []))
unfolding resources_after
fine_on {rows} x b {e} fs h xs f =
    let ids = map (λ (d : Resource). d.id) xs in
    let n = length-append xs (resource_of x ids e ∷ []) in
    let m : length ids ≤ 5000000 = rw length-map (omega (arith, f.most, f.few)) in
    record { fit = each_append f.fit (next (fit_resource slim_texts x ids h b m) empty); few = omega (arith, f.few); most = f.most }

pub fine_few : (k : Section) {w : List ℕ} {rows : ℕ} {d : List ℕ} (e : Element) (fs : List Element) → calendars_before d k.calendars (root_at k.root) k.start ≡ true
    → Finds (context_at d k.calendars (root_at k.root)) k.root.tree.now k.calendar_names w → (xs : List Resource) → FineResources rows (e ∷ fs) xs → FewResources k w rows 1 d xs
fine_few k e fs b h xs f = record { stand = b; finds = h; fit = f.fit; room = omega (arith, f.few); few = omega (arith, f.most) }
