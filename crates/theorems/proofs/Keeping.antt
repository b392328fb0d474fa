-- The model of any element keeps the check's list, so what reading gives passes the check. Assumes nothing.
use Rattle.std.specs.Prelude.{if◌then◌else◌, ◌≡◌, Bool}
use Rattle.std.proofs.Math.Path.{refl}
use Rattle.std.proofs.Common.{ap, ◌∙◌, arith}
use Rattle.std.proofs.Math.Bool.{true}
use mathlib.Core.List.{List, [], ◌∷◌, ◌++◌, map}
use Prim.Native.Nat.{ℕ, ◌+◌, ◌<◌}
use borrow.Author.Tests.{lt-ltb}
use Rattle.std.proofs.Math.Dec.{ltb}
use Rattle.std.proofs.Math.ListN.{length, length-append}
use Rattle.definition.specs.Base.{◌or◌, ◌or_else◌, numbered, same}
use Rattle.definition.specs.Text.{Text}
use Rattle.definition.specs.Tree.{Element, records, element}
use Rattle.definition.specs.Field.{text_in}
use Rattle.definition.specs.Model.{Activity, Resource, Expense, Model}
use Rattle.definition.specs.Task.{Context, context_of, level_of, wanted_id, activity_of, activities_after, activities}
use Rattle.definition.specs.Link.{link_of, links, entered}
use Rattle.definition.specs.Resource.{work_resources, cost_resources, resource_of, resources_after, resources, assignment_from, expense_from, expenses}
use Rattle.definition.specs.Read.{model_of}
use Rattle.definition.specs.Check.{distinct, if_given, is_calendar, activity_right, link_right, assignment_right, keeps_list}
use Rattle.definition.specs.Refusal.{gives, read_answer, check_of, check_answer}
use Rattle.laws.specs.Bits.{Bytes}
use Rattle.laws.specs.Each.{Each, empty, next, each_append}
use Rattle.laws.specs.Tests.{each_passes, OneOf, each_some}
use Rattle.laws.specs.FitLists.{perhaps_any}
use Rattle.laws.proofs.FitNames.{free_new}
use Rattle.laws.specs.FitCalendars.{name_of_lem}
use Rattle.theorems.specs.Leads.{◌also◌}
use Rattle.theorems.specs.Reading.{activities_length, resources_length, links_each, assignments_each, expenses_each}
use Rattle.theorems.proofs.Reading.{answer_decodes}
use Rattle.theorems.specs.Keeping.{numbered_end, ids_add, known, Known, built_known, used_known, firsts_distinct, activity_right_lem}

-- ---- activities and resources

module _ (root : Element) where
  abbrev x : Context
  x = context_of root

  abbrev m : Model
  m = model_of root

  record Activities (done : List Activity) : Type 0 where
    ids : distinct same (map (λ (a : Activity). a.id) done) ≡ true
    right : Each (λ y. activity_right m y ≡ true) (numbered 0 done)

  activities_keep : (enters : ℕ → Bool) {done : List Activity} (levels : List ℕ) {ts : List Element} → length levels ≡ length done → Activities done → Each (OneOf x.tasks) ts
      → Activities (activities_after x enters done levels ts)
  unfolding activities_after activity_of
  activities_keep enters {done} levels e d empty = d
  activities_keep enters {done} levels e d (next {x = t} s ss) =
      let ids = map (λ (a : Activity). a.id) done in
      let a = activity_of x ids levels (enters (length done)) t in
      activities_keep enters {done = done ++ (a ∷ [])} (levels ++ (level_of t ∷ [])) (omega (arith, length-append levels (level_of t ∷ []), length-append done (a ∷ [])))
      (record {
        ids = ids_add (λ (a : Activity). a.id) done a d.ids (free_new ids (wanted_id t));
        right =
            rw (numbered_end 0 done a) (each_append d.right (next {x = (0 + length done, a)} (activity_right_lem root ids levels (enters (length done)) t (0 + length done) (omega arith) s) empty));
      })
      ss

  record Resources (done : List Resource) : Type 0 where
    ids : distinct same (map (λ (r : Resource). r.id) done) ≡ true
    right : Each (λ (r : Resource). if_given (known x) r.calendar ≡ true) done

  resources_keep : {done : List Resource} (rs : List Element) → Resources done → Resources (resources_after x done rs)
  unfolding resources_after resource_of
  resources_keep {done} [] d = d
  resources_keep {done} (r ∷ rs) d =
      let ids = map (λ (r : Resource). r.id) done in
      let a = resource_of x ids r in
      resources_keep {done = done ++ (a ∷ [])} rs
      (record {
        ids = ids_add (λ (r : Resource). r.id) done a d.ids (free_new ids ((text_in r "ID" or_else text_in r "UID") or []));
        right = each_append d.right (next {x = a} (used_known x (perhaps_any (text_in r "CalendarUID") (λ u. name_of_lem {T = Known x} u (built_known x)))) empty);
      })

  -- ---- the whole

  abbrev enters : ℕ → Bool
  enters = entered (links x)

  -- a task's row is an activity's, and a resource element's a resource's
  task_row_lem : (n : ℕ) → n < length x.tasks → ltb n (length (activities x enters)) ≡ true
  unfolding activities
  task_row_lem n h = lt-ltb n (length (activities x enters)) (omega (arith, activities_length x enters [] [] x.tasks))

  resource_row_lem : (n : ℕ) → n < length (work_resources root) → ltb n (length (resources x root)) ≡ true
  unfolding resources
  resource_row_lem n h = lt-ltb n (length (resources x root)) (omega (arith, resources_length x [] (work_resources root)))

  pub keeps_list_lem : keeps_list (model_of root) ≡ true
  unfolding keeps_list model_of activities resources expenses link_right assignment_right is_calendar link_of assignment_from expense_from distinct numbered
  keeps_list_lem =
      let a = activities_keep enters [] refl (record { ids = refl; right = empty }) (each_some x.tasks) in
      let r = resources_keep (work_resources root) (record { ids = refl; right = empty }) in
      a.ids
      also each_passes (activity_right m) a.right
      also r.ids
      also each_passes (λ (r : Resource). if_given (is_calendar m) r.calendar) r.right
      also each_passes (link_right m) (links_each (λ l. link_right m l ≡ true) x (λ p row l h k. task_row_lem p h also task_row_lem row k))
      also each_passes (assignment_right m) (assignments_each x root (λ t r a h k. task_row_lem t h also resource_row_lem r k))
      also each_passes (λ (e : Expense). ltb e.activity (length m.activities)) (expenses_each x root (each_some (cost_resources root)) (λ t r a h k. task_row_lem t h))
      also firsts_distinct [] _ refl

-- what reading gives passes the check
pub read_passes : (s : Text) (room : ℕ) (l : List ℕ) → Bytes s → read_answer s room ≡ gives l → check_answer l ≡ 0
unfolding check_answer
read_passes s room l b h = ap check_of (answer_decodes s room l b h) ∙ ap (λ (t : Bool). if t then 0 else 7) (keeps_list_lem (element (records s)))
