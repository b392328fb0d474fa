-- What each part of the reader makes of elements that differ in custom fields alone: the same. Assumes nothing.
use Rattle.std.specs.Prelude.{if◌then◌else◌, ◌≡◌, refl, Bool, true, false, not, ℕ, zero, suc, length, take, eqb}
use mathlib.Core.List.{List, [], ◌++◌, map, flat_map}
use Rattle.std.proofs.Common.{sym, ap, ◌∙◌}
use Rattle.std.specs.Prelude.{Option, Some, None}
use Prim.Native.String.{String}
use Rattle.definition.specs.Base.{◌>>=◌, ◌or◌, ◌or_else◌, when, given, keep, find_last, present, some?, numbered, same}
use Rattle.definition.specs.Ascii.{bytes}
use Rattle.definition.specs.Text.{Text, is_yes, signed_of}
use Rattle.definition.specs.Date.{Date, date_of}
use Rattle.definition.specs.Number.{number_of, found}
use Rattle.definition.specs.Duration.{duration_of}
use Rattle.definition.specs.Tree.{Element, child, all, all_in}
use Rattle.definition.specs.Field.{text_in, yes_in, int_in, number_in, date_in, duration_in, minutes_in, minutes_alone}
use Rattle.definition.specs.Format.{Period, earlier}
use Rattle.definition.specs.Recurrence.{rule_from, rule_of, is_rule, recurrence_days, days_of, days_of_rule}
use Rattle.definition.specs.Model.{Calendar, Activity, Resource}
use Rattle.definition.specs.Calendar.{insert_all, working_time, periods_of, day_type, week_days, place_of, week_by, hours_by, exception_on, recurring, exceptions_of, calendar_of, Named, base_of, build, calendar_elements, built_calendars, main_calendar, skipped}
use Rattle.definition.specs.Task.{level_of, is_kept, kept_tasks, row_of, Context, context_of, is_elapsed, is_fractional, activity_of, activities_after, activities}
use Rattle.definition.specs.Link.{link_of, kept, fate_by, fate_of, fates, links, kept_of, entered}
use Rattle.definition.specs.Resource.{is_resource, resource_elements, is_cost, work_resources, cost_resources, resource_of, resources_after, resources, assignment_elements, task_row, cost_of, resource_row, assignment_from, assignment_of, assignments, expense_from, expense_of, expenses, firsts}
use Rattle.definition.specs.Read.{project_of, calendars_of, model_of}
use Rattle.theorems.specs.LinkSums.{empty, next, pairs_length}
use Rattle.theorems.specs.SameButCustom.{SameButCustom}
use Rattle.theorems.proofs.SameLaw.{Related, BothOrNone, missing, there, Other, if_related, all_same, child_same, all_in_same, bind_same, text_same}

-- ---- lists of related elements

-- it gives the same of related elements
abbrev Respects : {A : Type 0} → (Element → A) → Type 0
Respects f = (d e : Element) → SameButCustom d e → f d ≡ f e

keep_same : {p : Element → Bool} → Respects p → {ds es : List Element} → Related ds es → Related (keep p ds) (keep p es)
unfolding keep
keep_same b empty = empty
keep_same {p} b (next {x = d} {y = e} h k) = rw (sym (b d e h)) (if_related (p d) h (keep_same b k))

take_same : (n : ℕ) {ds es : List Element} → Related ds es → Related (take n ds) (take n es)
take_same zero h = empty
take_same (suc n) empty = empty
take_same (suc n) (next h k) = next h (take_same n k)

map_same : {A : Type 0} {f g : Element → A} → ((d e : Element) → SameButCustom d e → f d ≡ g e) → {ds es : List Element} → Related ds es → map f ds ≡ map g es
map_same b empty = refl
map_same b (next {x = d} {y = e} h k) = rw (b d e h, map_same b k) refl

append_same : {a b c d : List Element} → Related a b → Related c d → Related (a ++ c) (b ++ d)
append_same empty k = k
append_same (next h r) k = next h (append_same r k)

flat_same : {f : Element → List Element} → ((d e : Element) → SameButCustom d e → Related (f d) (f e)) → {ds es : List Element} → Related ds es → Related (flat_map f ds) (flat_map f es)
unfolding flat_map
flat_same b empty = empty
flat_same b (next {x = d} {y = e} h k) = append_same (b d e h) (flat_same b k)

some_same : {p : Element → Bool} → Respects p → {ds es : List Element} → Related ds es → some? p ds ≡ some? p es
unfolding some?
some_same b empty = refl
some_same b (next {x = d} {y = e} h k) = rw (b d e h, some_same b k) refl

-- ---- one of them, where it is there
given_same : {a b : Option Element} → BothOrNone a b → given a ≡ given b
given_same missing = refl
given_same (there h) = refl

last_by : {a b : Option Element} {d e : Element} (t : Bool) → SameButCustom d e → BothOrNone a b → BothOrNone (a or_else when t d) (b or_else when t e)
last_by true h missing = there h
last_by false h missing = missing
last_by t h (there k) = there k

last_same : {p : Element → Bool} → Respects p → {ds es : List Element} → Related ds es → BothOrNone (find_last p ds) (find_last p es)
unfolding find_last
last_same b empty = missing
last_same {p} b (next {x = d} {y = e} h k) = rw (sym (b d e h)) (last_by (p d) h (last_same b k))

-- ---- fields
module _ {d e : Element} (h : SameButCustom d e) where
  yes_same : (name : String) → Other (bytes name) → yes_in d name ≡ yes_in e name
  unfolding yes_in
  yes_same name o = ap (λ (t : Option Text). is_yes (t or [])) (text_same name o h)

  int_same : (name : String) → Other (bytes name) → int_in d name ≡ int_in e name
  unfolding int_in
  int_same name o = ap (λ (t : Option Text). t >>= signed_of 64) (text_same name o h)

  number_same : (name : String) → Other (bytes name) → number_in d name ≡ number_in e name
  unfolding number_in
  number_same name o = ap (λ (t : Option Text). t >>= λ s. found (number_of s)) (text_same name o h)

  date_same : (name : String) → Other (bytes name) → date_in d name ≡ date_in e name
  unfolding date_in
  date_same name o = ap (λ (t : Option Text). t >>= date_of) (text_same name o h)

  duration_same : (name : String) → Other (bytes name) → duration_in d name ≡ duration_in e name
  duration_same name o = ap (λ (t : Option Text). t >>= λ s. found (duration_of s)) (text_same name o h)

  minutes_same : (name : String) → Other (bytes name) → minutes_in d name ≡ minutes_in e name
  unfolding minutes_in
  minutes_same name o = ap minutes_alone (duration_same name o)

  -- the elements of a name in the first one of another
  listed : (outer inner : String) → Other (bytes outer) → Other (bytes inner) → Related (all_in (child d (bytes outer)) (bytes inner)) (all_in (child e (bytes outer)) (bytes inner))
  listed outer inner o p = all_in_same (bytes inner) p (child_same (bytes outer) o h)

-- ---- rules
rule_from_same : {d e : Element} → SameButCustom d e → (from to : Date) → rule_from d from to ≡ rule_from e from to
unfolding rule_from same
rule_from_same h from to =
    rw (yes_same h "EnteredByOccurrences" refl, int_same h "Type" refl, int_same h "Occurrences" refl, int_same h "Period" refl, int_same h "Month" refl, int_same h "MonthDay" refl, int_same h "MonthItem" refl, int_same h "MonthPosition" refl, int_same h "DaysOfWeek" refl) refl

recurrence_same : Respects recurrence_days
unfolding recurrence_days rule_of same
recurrence_same d e h =
    ap (λ r. r >>= λ r. Some (days_of_rule r))
    (bind_same (λ p q k. rw (date_same k "FromDate" refl, date_same k "ToDate" refl) (λ i. date_in q "FromDate" >>= λ from. let r = rule_from_same h from (date_in q "ToDate" or from) i in when (is_rule r) r)) (child_same (bytes "TimePeriod") refl h))

old_same : Respects days_of
unfolding days_of same
old_same d e h = ap (λ (l : Option (List Date)). l or []) (bind_same (λ p q k. rw (date_same k "FromDate" refl, date_same k "ToDate" refl) refl) (child_same (bytes "TimePeriod") refl h))

-- ---- calendars
working_same : Respects working_time
unfolding working_time same
working_same d e h = rw (text_same "FromTime" refl h, text_same "ToTime" refl h) refl

periods_same : Respects periods_of
unfolding periods_of same
periods_same d e h = ap (λ l. insert_all earlier (present l) []) (map_same working_same (listed h "WorkingTimes" "WorkingTime" refl refl))

type_same : Respects day_type
unfolding day_type same
type_same d e h = rw (text_same "DayType" refl h) refl

place_same : Respects place_of
place_same d e h = rw (type_same d e h) refl

week_same : {ds es : List Element} → Related ds es → (week : List Bool) → week_by ds week ≡ week_by es week
unfolding week_by same
week_same empty week = refl
week_same (next {x = d} {y = e} h k) week = rw (place_same d e h, yes_same h "DayWorking" refl) (week_same k _)

hours_same : {ds es : List Element} → Related ds es → (hours : List (List Period)) → hours_by ds hours ≡ hours_by es hours
unfolding hours_by same
hours_same empty hours = refl
hours_same (next {x = d} {y = e} h k) hours = rw (place_same d e h, yes_same h "DayWorking" refl, periods_same d e h) (hours_same k _)

exception_same : (days : List Date) → Respects (λ (x : Element). exception_on x days)
unfolding same
exception_same days d e h = rw (yes_same h "DayWorking" refl, periods_same d e h) refl

week_days_same : {d e : Element} → SameButCustom d e → Related (week_days d) (week_days e)
unfolding same
week_days_same h = listed h "WeekDays" "WeekDay" refl refl

recurring_same : (d e : Element) → SameButCustom d e → Related (recurring d) (recurring e)
unfolding same
recurring_same d e h = listed h "Exceptions" "Exception" refl refl

exceptions_same : Respects exceptions_of
unfolding exceptions_of
exceptions_same d e h =
    λ i. map_same (λ v w k. ap (λ days. exception_on v days) (old_same v w k) ∙ exception_same (days_of w) v w k) (keep_same (λ v w k. ap (λ o. eqb (o or 1) 0) (type_same v w k)) (week_days_same h)) i
    ++ present (map_same (λ v w k. ap (λ o. o >>= λ days. Some (exception_on v days)) (recurrence_same v w k) ∙ (λ i. recurrence_days w >>= λ days. Some (exception_same days v w k i))) (recurring_same d e h) i)

calendar_same : {d e : Element} → SameButCustom d e → (base : Calendar) → calendar_of d base ≡ calendar_of e base
unfolding calendar_of same
calendar_same {d} {e} h base = rw (week_same (week_days_same h) base.week, hours_same (week_days_same h) base.hours, exceptions_same d e h, text_same "Name" refl h) refl

base_same : Respects base_of
unfolding same
base_same d e h = rw (text_same "BaseCalendarUID" refl h) refl

build_same : {ds es : List Element} → Related ds es → (built : List Named) → build built ds ≡ build built es
unfolding build same
build_same empty built = refl
build_same (next {x = d} {y = e} h k) built = rw (base_same d e h, calendar_same h, text_same "UID" refl h) (build_same k _)

-- ---- of the root
module _ {r s : Element} (h : SameButCustom r s) where
  calendars_listed : Related (calendar_elements r) (calendar_elements s)
  unfolding same
  calendars_listed = listed h "Calendars" "Calendar" refl refl

  built_same : built_calendars r ≡ built_calendars s
  unfolding built_calendars
  built_same =
      let own = keep_same (λ d e k. ap (λ o. not (given o)) (base_same d e k)) calendars_listed in
      let over = keep_same (λ d e k. ap given (base_same d e k)) calendars_listed in
      ap (λ b. build b (keep (λ e. given (base_of e)) (calendar_elements r))) (build_same own []) ∙ build_same over _

  main_same : (built : List Named) → main_calendar r built ≡ main_calendar s built
  unfolding main_calendar same
  main_same built = rw (text_same "CalendarUID" refl h) refl

  skipped_same : skipped r ≡ skipped s
  unfolding skipped
  skipped_same = sym (pairs_length (keep_same (λ d e k. ap (λ o. not (given o)) (recurrence_same d e k)) (flat_same recurring_same calendars_listed)))

-- ---- tasks
level_same : Respects level_of
unfolding level_of same
level_same d e h = rw (int_same h "OutlineLevel" refl) refl

kept_test_same : Respects is_kept
unfolding same
kept_test_same d e h = rw (text_same "UID" refl h, level_same d e h) refl

tasks_same : {r s : Element} → SameButCustom r s → Related (kept_tasks r) (kept_tasks s)
unfolding kept_tasks same
tasks_same h = keep_same kept_test_same (take_same 100000 (listed h "Tasks" "Task" refl refl))

elapsed_same : Respects is_elapsed
unfolding is_elapsed same
elapsed_same d e h = rw (int_same h "DurationFormat" refl) refl

fractional_same : Respects is_fractional
unfolding is_fractional same
fractional_same d e h = rw (duration_same h "Duration" refl) refl

-- the row of the last with a UID: the same row, though another element stands there
row_with : (o : Option (ℕ × Element)) (t : Bool) (n : ℕ) (e : Element) → (o or_else when t (n, e) >>= λ x. Some x.0) ≡ (o >>= λ x. Some x.0) or_else when t n
row_with None true n e = refl
row_with None false n e = refl
row_with (Some x) t n e = refl

rows_same : (u : Text) (n : ℕ) {ds es : List Element} → Related ds es
    → (find_last (λ (x : ℕ × Element). same (text_in x.1 "UID" or []) u) (numbered n ds) >>= λ x. Some x.0) ≡ (find_last (λ (x : ℕ × Element). same (text_in x.1 "UID" or []) u) (numbered n es) >>= λ x. Some x.0)
unfolding find_last numbered same
rows_same u n empty = refl
rows_same u n (next {x = d} {y = e} h k) =
    row_with _ _ n d ∙ (λ i. rows_same u (suc n) k i or_else when (same (text_same "UID" refl h i or []) u) n) ∙ sym (row_with _ _ n e)

row_same : (u : Text) {ds es : List Element} → Related ds es → row_of ds u ≡ row_of es u
unfolding row_of
row_same u k = rows_same u 0 k

-- ---- with other tasks that are related
abbrev with_tasks : Context → List Element → Context
with_tasks x ts = record { per_day = x.per_day; built = x.built; main = x.main; tasks = ts }

context_same : {r s : Element} → SameButCustom r s → context_of s ≡ with_tasks (context_of r) (kept_tasks s)
unfolding context_of same
context_same h = rw (number_same h "MinutesPerDay" refl, built_same h, main_same h _) refl

module _ (x : Context) (ts : List Element) (k : Related x.tasks ts) where
  abbrev y : Context
  y = with_tasks x ts

  activity_same : (ids : List Text) (levels : List ℕ) (goes : Bool) {d e : Element} → SameButCustom d e → activity_of x ids levels goes d ≡ activity_of y ids levels goes e
  unfolding activity_of same
  activity_same ids levels goes {d} {e} h =
      rw (
        minutes_same h "Duration" refl,
        elapsed_same d e h,
        text_same "WBS" refl h,
        text_same "ID" refl h,
        text_same "UID" refl h,
        text_same "Name" refl h,
        yes_same h "Milestone" refl,
        level_same d e h,
        text_same "Notes" refl h,
        text_same "CalendarUID" refl h,
        int_same h "ConstraintType" refl,
        date_same h "ConstraintDate" refl,
        date_same h "Deadline" refl,
        date_same h "ActualStart" refl,
        date_same h "ActualFinish" refl,
        number_same h "PhysicalPercentComplete" refl,
        int_same h "Type" refl,
        minutes_same h "RemainingDuration" refl,
      ) refl

  activities_from : (goes : ℕ → Bool) {ds es : List Element} → Related ds es → (done : List Activity) (levels : List ℕ) → activities_after x goes done levels ds ≡ activities_after y goes done levels es
  unfolding activities_after
  activities_from goes empty done levels = refl
  activities_from goes (next {x = d} {y = e} h r) done levels =
      rw (activity_same (map (λ (a : Activity). a.id) done) levels (goes (length done)) h, level_same d e h) (activities_from goes r _ _)

  activities_same : (goes : ℕ → Bool) → activities x goes ≡ activities y goes
  unfolding activities
  activities_same goes = activities_from goes k [] []

  row_named : (u : Option Text) → (u >>= row_of x.tasks) ≡ (u >>= row_of ts)
  row_named None = refl
  row_named (Some t) = row_same t k

  link_same : (p q : ℕ) {d e : Element} → SameButCustom d e → link_of x p q d ≡ link_of y p q e
  unfolding link_of same
  link_same p q h = rw (int_same h "LagFormat" refl, int_same h "LinkLag" refl, int_same h "Type" refl) refl

  fate_at : (q : ℕ) {d e : Element} → SameButCustom d e → (o : Option ℕ) → fate_by x q d o ≡ fate_by y q e o
  fate_at q h None = refl
  fate_at q h (Some p) = ap kept (link_same p q h)

  fate_same : (q : ℕ) {d e : Element} → SameButCustom d e → fate_of x q d ≡ fate_of y q e
  unfolding fate_of same
  fate_same q {d} {e} h = rw (yes_same h "CrossProject" refl, text_same "PredecessorUID" refl h, row_named (text_in e "PredecessorUID"), fate_at q h (text_in e "PredecessorUID" >>= row_of ts)) refl

  fates_from : (n : ℕ) {ds es : List Element} → Related ds es
      → flat_map (λ (p : ℕ × Element). map (fate_of x p.0) (all p.1 (bytes "PredecessorLink"))) (numbered n ds) ≡ flat_map (λ (p : ℕ × Element). map (fate_of y p.0) (all p.1 (bytes "PredecessorLink"))) (numbered n es)
  unfolding numbered same flat_map
  fates_from n empty = refl
  fates_from n (next h r) = λ i. map_same (λ d e g. fate_same n g) (all_same (bytes "PredecessorLink") refl h) i ++ fates_from (suc n) r i

  fates_same : fates x ≡ fates y
  unfolding fates
  fates_same = fates_from 0 k

  -- ---- resources, assignments and expenses
  resource_same : (ids : List Text) {d e : Element} → SameButCustom d e → resource_of x ids d ≡ resource_of y ids e
  unfolding resource_of same
  resource_same ids h =
      rw (text_same "ID" refl h, text_same "UID" refl h, text_same "Name" refl h, int_same h "Type" refl, text_same "MaterialLabel" refl h, number_same h "MaxUnits" refl, text_same "CalendarUID" refl h, number_same h "StandardRate" refl) refl

  resources_from : {ds es : List Element} → Related ds es → (done : List Resource) → resources_after x done ds ≡ resources_after y done es
  unfolding resources_after
  resources_from empty done = refl
  resources_from (next h r) done = rw (resource_same (map (λ (d : Resource). d.id) done) h) (resources_from r _)

  task_same : {d e : Element} → SameButCustom d e → task_row x d ≡ task_row y e
  unfolding same
  task_same {d} {e} h = rw (text_same "TaskUID" refl h) (row_named (text_in e "TaskUID"))

-- ---- resources
cost_test_same : Respects is_cost
unfolding same
cost_test_same d e h = rw (int_same h "Type" refl) refl

resource_test_same : Respects is_resource
unfolding same
resource_test_same d e h = rw (text_same "UID" refl h, text_same "Name" refl h) refl

module _ {r s : Element} (h : SameButCustom r s) where
  resources_listed : Related (resource_elements r) (resource_elements s)
  unfolding same
  resources_listed = keep_same resource_test_same (listed h "Resources" "Resource" refl refl)

  work_same : Related (work_resources r) (work_resources s)
  work_same = keep_same (λ d e k. ap not (cost_test_same d e k)) resources_listed

  costs_same : Related (cost_resources r) (cost_resources s)
  costs_same = keep_same cost_test_same resources_listed

  assignments_listed : Related (assignment_elements r) (assignment_elements s)
  unfolding same
  assignments_listed = listed h "Assignments" "Assignment" refl refl

  last_cost : (u : Option Text) → BothOrNone (u >>= λ t. find_last (λ c. same (text_in c "UID" or []) t) (cost_resources r)) (u >>= λ t. find_last (λ c. same (text_in c "UID" or []) t) (cost_resources s))
  unfolding same
  last_cost None = missing
  last_cost (Some t) = last_same (λ d e k. ap (λ (o : Option Text). same (o or []) t) (text_same "UID" refl k)) costs_same

  cost_same : {d e : Element} → SameButCustom d e → BothOrNone (cost_of r d) (cost_of s e)
  unfolding same
  cost_same {d} {e} k = rw (text_same "ResourceUID" refl k) (last_cost (text_in e "ResourceUID"))

  resource_row_same : {d e : Element} → SameButCustom d e → resource_row r d ≡ resource_row s e
  unfolding same
  resource_row_same {d} {e} k = rw (text_same "ResourceUID" refl k) (λ i. text_in e "ResourceUID" >>= λ u. row_same u work_same i)

assignment_same : (t q : ℕ) {d e : Element} → SameButCustom d e → assignment_from t q d ≡ assignment_from t q e
unfolding assignment_from same
assignment_same t q h =
    rw (minutes_same h "Work" refl, minutes_same h "ActualWork" refl, minutes_same h "RemainingWork" refl, number_same h "Units" refl) refl

expense_same : (t : ℕ) {c b d e : Element} → SameButCustom c b → SameButCustom d e → expense_from t c d ≡ expense_from t b e
unfolding expense_from same
expense_same t g h =
    rw (number_same h "Cost" refl, number_same h "ActualCost" refl, number_same h "RemainingCost" refl, text_same "Name" refl g, int_same g "AccrueAt" refl) refl

module _ (x : Context) (ts : List Element) (k : Related x.tasks ts) {r s : Element} (h : SameButCustom r s) where
  resources_same : resources x r ≡ resources (with_tasks x ts) s
  unfolding resources
  resources_same = resources_from x ts k (work_same h) []

  one_assignment : {d e : Element} → SameButCustom d e → assignment_of x r d ≡ assignment_of (with_tasks x ts) s e
  unfolding assignment_of
  one_assignment {d} {e} g =
      rw (given_same (cost_same h g), task_same x ts k g, resource_row_same h g)
      (λ i. if given (cost_of s e) then None else (task_row (with_tasks x ts) e >>= λ t. resource_row s e >>= λ q. Some (assignment_same t q g i)))

  assignments_same : assignments x r ≡ assignments (with_tasks x ts) s
  unfolding assignments
  assignments_same = ap present (map_same (λ d e g. one_assignment g) (assignments_listed h))

  one_expense : {d e : Element} → SameButCustom d e → expense_of x r d ≡ expense_of (with_tasks x ts) s e
  unfolding expense_of
  one_expense {d} {e} g = rw (task_same x ts k g) (λ i. task_row (with_tasks x ts) e >>= λ t. bind_same (λ c b q. ap Some (expense_same t q g)) (cost_same h g) i)

  expenses_same : expenses x r ≡ expenses (with_tasks x ts) s
  unfolding expenses
  expenses_same = ap (λ l. firsts [] (present l)) (map_same (λ d e g. one_expense g) (assignments_listed h))

  project_same : project_of x r ≡ project_of (with_tasks x ts) s
  unfolding project_of same
  project_same =
      rw (text_same "Title" refl h, text_same "Name" refl h, date_same h "StartDate" refl, text_same "CurrencySymbol" refl h, skipped_same h, fates_same x ts k, sym (pairs_length (keep_same fractional_same k)), date_same h "StatusDate" refl) refl

  calendars_same : calendars_of x ≡ calendars_of (with_tasks x ts)
  unfolding calendars_of
  calendars_same = rw (some_same elapsed_same k) refl

  links_same : links x ≡ links (with_tasks x ts)
  unfolding links
  links_same = ap kept_of (fates_same x ts k)

-- ---- the whole
pub model_same : {r s : Element} → SameButCustom r s → model_of r ≡ model_of s
unfolding model_of context_of
model_same {r} {s} h =
    let x = context_of r in
    let ts = kept_tasks s in
    let k = tasks_same h in
    rw (context_same h, project_same x ts k h, calendars_same x ts k h, links_same x ts k h, activities_same x ts k (entered (links (with_tasks x ts))), resources_same x ts k h, assignments_same x ts k h, expenses_same x ts k h) refl
