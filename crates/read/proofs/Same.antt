-- Two elements whose parts are the same have the same model. Assumes nothing.
use Rattle.std.specs.Prelude.{if◌then◌else◌}
use Prim.Native.Nat.{ℕ}
use mathlib.Core.Path.{◌≡◌, sym, ap, ◌∙◌, subst}
use mathlib.Core.Bool.{not}
use mathlib.Core.List.{List, [], map}
use Rattle.std.specs.Prelude.{Option, Some, None}
use lib.ListN.{length, take}
use Rattle.definition.specs.Base.{◌>>=◌, ◌or◌, ◌or_else◌, given, keep, find_last, present, same}
use Rattle.definition.specs.Ascii.{bytes}
use Rattle.definition.specs.Text.{Text}
use Rattle.definition.specs.Tree.{Element, child, all_in, text_of}
use Rattle.definition.specs.Date.{date_of, epoch}
use Rattle.definition.specs.Number.{number_of, found}
use Rattle.definition.specs.Field.{text_in, number_in, date_in}
use Rattle.definition.specs.Format.{◌⊗◌}
use Rattle.definition.specs.Model.{Model, Assignment, Expense}
use Rattle.definition.specs.Pack.{counts, counts_of, body, body_of}
use Rattle.definition.specs.Calendar.{calendar_elements, built_calendars, main_calendar, skipped}
use Rattle.definition.specs.Task.{most_tasks, is_kept, kept_tasks, row_of, Context, per_day_from, per_day_of, context_of, activities, is_fractional}
use Rattle.definition.specs.Link.{fates, links, entered, is_dangling, is_across}
use Rattle.definition.specs.Resource.{is_resource, is_cost, resources_after, resources, assignment_elements, task_row, assignment_from, assignment_of, assignments, expense_from, expense_of, firsts, expenses}
use Rattle.definition.specs.Read.{project_of, calendars_of, model_of}
use Rattle.bits.specs.Steps.{Puts}
use Rattle.tree.specs.Place.{element_at, meaning}
use Rattle.tree.specs.declared.element.Element.{Element as Place}
use Rattle.tree.specs.Root.{own_text, root_at, Parts, Stands, stands_all, stands_text, in_calendars, in_tasks, in_resources, in_assignments, calendar_uid, minutes_per_day, title_is, name_is, start_date, currency_symbol, status_date}
use Rattle.tree.specs.declared.root.Root.{Root}
use Rattle.pack.specs.Record.{counts_by}
use Rattle.read.specs.Sections.{start, low, zeros, Few, AllPut}
use Rattle.read.specs.declared.sections.Sections.{Sections}

-- what the model of an element is made of
record Same (a b : Element) : Type 0 where
  calendars : calendar_elements a ≡ calendar_elements b
  tasks : all_in (child a (bytes "Tasks")) (bytes "Task") ≡ all_in (child b (bytes "Tasks")) (bytes "Task")
  resources : all_in (child a (bytes "Resources")) (bytes "Resource") ≡ all_in (child b (bytes "Resources")) (bytes "Resource")
  assignments : assignment_elements a ≡ assignment_elements b
  calendar : text_in a "CalendarUID" ≡ text_in b "CalendarUID"
  minutes : text_in a "MinutesPerDay" ≡ text_in b "MinutesPerDay"
  title : text_in a "Title" ≡ text_in b "Title"
  name : text_in a "Name" ≡ text_in b "Name"
  start : text_in a "StartDate" ≡ text_in b "StartDate"
  currency : text_in a "CurrencySymbol" ≡ text_in b "CurrencySymbol"
  status : text_in a "StatusDate" ≡ text_in b "StatusDate"

-- by the elements that assignments look at
abbrev work_in : List Element → List Element
work_in rs = keep (λ r. not (is_cost r)) (keep is_resource rs)

abbrev cost_by : List Element → Element → Option Element
cost_by rs a = text_in a "ResourceUID" >>= λ u. find_last (λ r. same (text_in r "UID" or []) u) (keep is_cost (keep is_resource rs))

abbrev assignments_of : Context → List Element → List Element → List Assignment
assignments_of x rs es =
    present (map (λ a. if given (cost_by rs a) then None else
    (task_row x a >>= λ t. text_in a "ResourceUID" >>= row_of (work_in rs) >>= λ r. Some (assignment_from t r a))) es)

abbrev expenses_of : Context → List Element → List Element → List Expense
expenses_of x rs es = firsts [] (present (map (λ a. task_row x a >>= λ t. cost_by rs a >>= λ r. Some (expense_from t r a)) es))

module _ {a b : Element} (h : Same a b) where
  per_day_lem : per_day_of a ≡ per_day_of b
  unfolding number_in
  per_day_lem = ap (λ (o : Option Text). (o >>= (λ s. found (number_of s)) >>= per_day_from) or 480) h.minutes

  built : built_calendars a ≡ built_calendars b
  unfolding built_calendars
  built = rw h.calendars

  main : main_calendar a (built_calendars a) ≡ main_calendar b (built_calendars b)
  unfolding main_calendar
  main = rw (h.calendar, built)

  kept : kept_tasks a ≡ kept_tasks b
  unfolding kept_tasks
  kept = ap (λ (l : List Element). keep is_kept (take most_tasks l)) h.tasks

  context : context_of a ≡ context_of b
  unfolding context_of
  context = λ i. record { per_day = per_day_lem i; built = built i; main = main i; tasks = kept i }

  skips : skipped a ≡ skipped b
  unfolding skipped
  skips = rw h.calendars

  project : project_of (context_of a) a ≡ project_of (context_of b) b
  unfolding project_of date_in
  project = λ i. record {
    name = (h.title i or_else h.name i) or [];
    start = (h.start i >>= date_of) or epoch;
    currency = h.currency i or [];
    skipped = skips i;
    dangling = length (keep is_dangling (fates (context i)));
    across = length (keep is_across (fates (context i)));
    fractional = length (keep is_fractional (context i).tasks);
    data_date = h.status i >>= date_of;
  }

  model : model_of a ≡ model_of b
  unfolding model_of resources assignments assignment_of expenses expense_of
  model = λ i. record {
    project = project i;
    calendars = calendars_of (context i);
    activities = activities (context i) (entered (links (context i)));
    links = links (context i);
    resources = resources_after (context i) [] (work_in (h.resources i));
    assignments = assignments_of (context i) (h.resources i) (h.assignments i);
    expenses = expenses_of (context i) (h.resources i) (h.assignments i);
  }

  few : Few b → Few a
  few k = record {
    calendars = rw h.calendars k.calendars;
    resources = rw (ap work_in h.resources) k.resources;
  }

  put : {d d' : List ℕ} {r : Sections} → AllPut a d d' r → AllPut b d d' r
  put {d} {d'} {r} w = record {
    puts = λ k. subst (λ (m : Model). Puts (counts ⊗ body (counts_of m)) (zeros, body_of m) d start d' r.next) model (w.puts (few k));
    counts = λ k i. subst (λ (m : Model). counts_by r.counts ≡ low (counts_of m)) model (w.counts (few k) i);
  }

-- the root that was found has the parts of the element
module _ (e : Place) {root : Root} (tree : root.tree.now ≡ e.tree.now) (h : Parts (λ n p. Stands e.tree.now p (child (meaning e) n)) root) where
  here : Parts (λ n p. Stands root.tree.now p (child (meaning e) n)) root
  here = subst (λ (s : Text). Parts (λ n p. Stands s p (child (meaning e) n)) root) (sym tree) h

  text : (n : Text) {p : ℕ} → text_of (root_at root) n ≡ own_text (element_at root.tree.now p) → Stands root.tree.now p (child (meaning e) n) → text_of (root_at root) n ≡ text_of (meaning e) n
  unfolding text_of
  text n i k = i ∙ stands_text k

  parts : Same (root_at root) (meaning e)
  parts = record {
    calendars = in_calendars root _ ∙ stands_all here.calendars (bytes "Calendar");
    tasks = in_tasks root _ ∙ stands_all here.tasks (bytes "Task");
    resources = in_resources root _ ∙ stands_all here.resources (bytes "Resource");
    assignments = in_assignments root _ ∙ stands_all here.assignments (bytes "Assignment");
    calendar = text (bytes "CalendarUID") (calendar_uid root) here.calendar;
    minutes = text (bytes "MinutesPerDay") (minutes_per_day root) here.minutes;
    title = text (bytes "Title") (title_is root) here.title;
    name = text (bytes "Name") (name_is root) here.name;
    start = text (bytes "StartDate") (start_date root) here.start;
    currency = text (bytes "CurrencySymbol") (currency_symbol root) here.currency;
    status = text (bytes "StatusDate") (status_date root) here.status;
  }

  pub all_same : {d d' : List ℕ} {r : Sections} → AllPut (root_at root) d d' r → AllPut (meaning e) d d' r
  all_same = put parts
