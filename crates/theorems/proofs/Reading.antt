-- The model of a tree that is not refused fits its fields, so the bytes that reading gives decode to that model. Assumes nothing.
use Rattle.std.specs.Prelude.{◌≡◌, Bool}
use Rattle.std.proofs.Math.Path.{refl}
use Rattle.std.proofs.Common.{sym, ap, ◌∙◌, arith}
use mathlib.Core.List.{List, [], ◌∷◌, ◌++◌, map}
use Rattle.std.specs.Prelude.{Some}
use Prim.Native.Nat.{ℕ, ◌+◌, ◌^◌, ◌≤◌, ◌<◌}
use Rattle.std.proofs.Math.ListN.{length, length-append, length-map}
use Rattle.definition.specs.Base.{present}
use Rattle.definition.specs.Text.{Text}
use Rattle.definition.specs.Date.{epoch}
use Rattle.definition.specs.Tree.{Rec, records, Element, element}
use Rattle.definition.specs.Model.{Activity, Resource}
use Rattle.definition.specs.Calendar.{Named, calendar_elements, skipped}
use Rattle.definition.specs.Task.{Context, context_of, level_of, activity_of, activities_after, activities, is_fractional}
use Rattle.definition.specs.Link.{fates, is_dangling, is_across, links, entered}
use Rattle.definition.specs.Resource.{work_resources, resource_of, resources_after, resources, assignment_elements, assignment_of, assignments, expense_of, expenses}
use Rattle.definition.specs.Read.{project_of, model_of}
use Rattle.definition.specs.Pack.{encode, decode}
use Rattle.definition.specs.Refusal.{gives, tree_refusal, read_answer}
use Rattle.laws.specs.Bits.{Bytes}
use Rattle.laws.specs.Each.{Each, empty, next, each_append}
use Rattle.laws.specs.Formats.{IsText}
use Rattle.laws.specs.Fields.{InYears}
use Rattle.laws.specs.FitRecords.{FitsProject, FitsActivity, FitsLink, FitsResource, FitsAssignment, FitsExpense}
use Rattle.laws.specs.FitLists.{is_given_lem, perhaps_or, perhaps_else}
use Rattle.laws.specs.FitTrees.{Holds, says, holds_tasks, holds_work, holds_costs, keep_most, calendars_most, resources_most, assignments_most, tasks_most}
use Rattle.laws.specs.FitNames.{built_length}
use Rattle.laws.specs.FitFields.{date_in_lem}
use Rattle.laws.specs.FitCalendars.{text_none, text_is, fit_names}
use Rattle.laws.proofs.FitCalendars.{fit_built, fit_calendars}
use Rattle.laws.specs.FitActivities.{text_in_lem, fit_activity}
use Rattle.laws.proofs.FitActivities.{fit_link}
use Rattle.laws.specs.FitResources.{fit_resource, fit_expense, fit_assignment}
use Rattle.theorems.specs.Utf8.{Neat, neat_element}
use Rattle.theorems.proofs.Utf8.{neat_texts}
use Rattle.theorems.specs.Counts.{root_most, skipped_most, fates_most}
use Rattle.theorems.specs.Packing.{Rows, FitsModel, decode_encode}
use Rattle.theorems.specs.Accepted.{accepted, what_given}
use Rattle.theorems.specs.Reading.{present_most, activities_length, links_each, kept_most, resources_length, assignments_each, expenses_each, firsts_most, calendars_length}

-- ---- activities

module _ (x : Context) (entered : ℕ → Bool) (names : Each (λ (n : Named). IsText n.1.name) x.built) where
  activities_fit : {done : List Activity} (levels : List ℕ) {ts : List Element} → Each FitsActivity done → Each (Holds Neat) ts
      → length done + length ts ≤ 5000000 → length levels + length ts ≤ 2 ^ 32 → Each FitsActivity (activities_after x entered done levels ts)
  unfolding activities_after
  activities_fit {done} levels d empty m n = d
  activities_fit {done} levels d (next {x = t} {l = ts} h hs) m n =
      let ids = map (λ (a : Activity). a.id) done in
      let i : length ids ≤ 5000000 = omega (arith, length-map done (λ (a : Activity). a.id)) in
      let a = fit_activity neat_texts x ids levels (entered (length done)) h names i (omega arith) in
      activities_fit {done = done ++ (activity_of x ids levels (entered (length done)) t ∷ [])} (levels ++ (level_of t ∷ [])) (each_append d (next a empty)) hs
      (omega (arith, length-append done (activity_of x ids levels (entered (length done)) t ∷ [])))
      (omega (arith, length-append levels (level_of t ∷ [])))

-- ---- resources, assignments, expenses

module _ (x : Context) (names : Each (λ (n : Named). IsText n.1.name) x.built) where
  resources_fit : {done : List Resource} {rs : List Element} → Each FitsResource done → Each (Holds Neat) rs → length done + length rs ≤ 5000000
      → Each FitsResource (resources_after x done rs)
  unfolding resources_after
  resources_fit {done} d empty m = d
  resources_fit {done} d (next {x = r} {l = rs} h hs) m =
      let ids = map (λ (d : Resource). d.id) done in
      let i : length ids ≤ 5000000 = omega (arith, length-map done (λ (d : Resource). d.id)) in
      resources_fit {done = done ++ (resource_of x ids r ∷ [])} (each_append d (next (fit_resource neat_texts x ids h names i) empty)) hs (omega (arith, length-append done (resource_of x ids r ∷ [])))

-- ---- the whole

project_fits : (x : Context) {root : Element} → Holds Neat root → skipped root < 2 ^ 32 → length (fates x) < 2 ^ 32 → length x.tasks < 2 ^ 32 → FitsProject (project_of x root)
unfolding project_of
project_fits x {root} h s f t = (
  text_is neat_texts (perhaps_or {P = Neat} [] (perhaps_else (says neat_texts h "Title") (says neat_texts h "Name")) (text_none neat_texts)),
  (
    perhaps_or {P = InYears} epoch (date_in_lem root "StartDate") (omega arith, omega arith),
    (
      text_in_lem neat_texts h "CurrencySymbol",
      (
        s,
        (
          omega (arith, keep_most is_dangling (fates x)),
          (
            omega (arith, keep_most is_across (fates x)),
            (omega (arith, keep_most is_fractional x.tasks), is_given_lem (date_in_lem root "StatusDate")),
          ),
        ),
      ),
    ),
  ),
)

module _ (rs : List Rec) (few : length rs ≤ 5000000) (h : Holds Neat (element rs)) where
  abbrev root : Element
  root = element rs

  abbrev context : Context
  context = context_of root

  tasks_few : length context.tasks ≤ 100000
  unfolding context_of
  tasks_few = tasks_most root

  few_tasks : (n : ℕ) → n < length context.tasks → n < 2 ^ 32
  few_tasks n h = omega (arith, tasks_few)

  calendars_few : length (calendar_elements root) ≤ 5000000
  calendars_few = omega (arith, calendars_most rs)

  built_names : Each (λ (n : Named). IsText n.1.name) context.built
  unfolding context_of
  built_names = fit_names IsText (fit_built neat_texts h calendars_few)

  built_few : length context.built ≤ 5000000
  unfolding context_of
  built_few = omega (arith, built_length root, calendars_few)

  fates_few : length (fates context) ≤ 5000000
  unfolding context_of
  fates_few = omega (arith, fates_most context root refl, root_most rs)

  tasks_hold : Each (Holds Neat) context.tasks
  unfolding context_of
  tasks_hold = holds_tasks h

  activities_rows : (entered : ℕ → Bool) → Rows FitsActivity (activities context entered)
  unfolding activities
  activities_rows entered = (
    omega (arith, activities_length context entered [] [] context.tasks, tasks_few),
    activities_fit context entered built_names [] empty tasks_hold (omega (arith, tasks_few)) (omega (arith, tasks_few)),
  )

  links_rows : Rows FitsLink (links context)
  unfolding links
  links_rows = (omega (arith, kept_most (fates context), fates_few), links_each FitsLink context (λ p row l h k. fit_link context p row l (few_tasks p h) (few_tasks row k)))

  work_few : length (work_resources root) ≤ 5000000
  work_few = omega (arith, resources_most rs)

  resources_rows : Rows FitsResource (resources context root)
  unfolding resources
  resources_rows = (
    omega (arith, resources_length context [] (work_resources root), work_few),
    resources_fit context built_names empty (holds_work h) (omega (arith, work_few)),
  )

  assignments_rows : Rows FitsAssignment (assignments context root)
  unfolding assignments
  assignments_rows =
      let es = assignment_elements root in (
        omega (arith, present_most (map (assignment_of context root) es), length-map es (assignment_of context root), assignments_most rs),
        assignments_each context root (λ t r a h k. fit_assignment t r a (few_tasks t h) (omega (arith, work_few))),
      )

  expenses_rows : Rows FitsExpense (expenses context root)
  unfolding expenses
  expenses_rows =
      let es = assignment_elements root in
      let l = present (map (expense_of context root) es) in (
        omega (arith, firsts_most [] l, present_most (map (expense_of context root) es), length-map es (expense_of context root), assignments_most rs),
        expenses_each context root (holds_costs h) (λ t r a h k. fit_expense neat_texts t a k (few_tasks t h)),
      )

  pub model_fits : FitsModel (model_of root)
  unfolding model_of
  model_fits = record {
    project = project_fits context h (omega (arith, skipped_most root, root_most rs)) (omega (arith, fates_few)) (omega (arith, tasks_few));
    calendars = (omega (arith, calendars_length context, built_few), fit_calendars neat_texts h calendars_few);
    activities = activities_rows (entered (links context));
    links = links_rows;
    resources = resources_rows;
    assignments = assignments_rows;
    expenses = expenses_rows;
  }

-- ---- a tree that is not refused

-- the model of a tree that is not refused fits
pub read_fits : (s : Text) → Bytes s → tree_refusal s ≡ 0 → FitsModel (model_of (element (records s)))
read_fits s b h = let a = accepted s h in model_fits (records s) a.few (neat_element s b a.utf8)

-- so its bytes decode to it
pub read_decodes : (s : Text) → Bytes s → tree_refusal s ≡ 0 → decode (encode (model_of (element (records s)))) ≡ Some (model_of (element (records s)))
read_decodes s b h = decode_encode (model_of (element (records s))) (read_fits s b h)

-- what reading gives decodes to the model of the tree
pub answer_decodes : (s : Text) (room : ℕ) (l : List ℕ) → Bytes s → read_answer s room ≡ gives l → decode l ≡ Some (model_of (element (records s)))
answer_decodes s room l b h =
    let (z, k) = what_given s room l h in
    ap decode (sym k) ∙ read_decodes s b z
