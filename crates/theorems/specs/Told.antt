-- What document 01 asks of every model that was read, in words of the tree and of the model. The lines of_tree and decodes fix the bytes; the others tell what
-- that model is in words of the tree, so that a wrong definition would be seen. There are two kinds of level: a task's is its OutlineLevel (level_of), which
-- parents are found by; a row of the outline has its own, 1 without a parent and else one more than its parent's. Assumes nothing.
use Rattle.std.specs.Prelude.{◌≡◌, Bool, false, ◌&&◌, not, ℕ, zero, suc, ◌+◌, ◌*◌, ◌≤◌, ◌<◌, length, take, Float}
use mathlib.Core.List.{List, [], ◌++◌, map, flat_map}
use Rattle.std.specs.Prelude.{Option, Some, None}
use Rattle.std.specs.Float.Ieee.{le, eq}
use Rattle.definition.specs.Base.{◌>>=◌, ◌or◌, given, when, some?, keep, count, numbered, same}
use Rattle.definition.specs.Ascii.{bytes}
use Rattle.definition.specs.Text.{Text, trim}
use Rattle.definition.specs.Number.{float, half_away, found}
use Rattle.definition.specs.Duration.{figures_of, total_of}
use Rattle.definition.specs.Tree.{Element, records, element, all, child, all_in}
use Rattle.definition.specs.Field.{text_in, yes_in, date_in}
use Rattle.definition.specs.Recurrence.{rule_of}
use Rattle.definition.specs.Model.{Calendar, Activity, Link, Resource, Model}
use Rattle.definition.specs.Calendar.{built_calendars, main_calendar}
use Rattle.definition.specs.Task.{level_of, kept_tasks, context_of, wanted_id, activity_of}
use Rattle.definition.specs.Link.{link_of, entered}
use Rattle.definition.specs.Read.{model_of}
use Rattle.definition.specs.Pack.{decode}
use Rattle.definition.specs.Outline.{outline}
use Rattle.definition.specs.Refusal.{gives, row_words, check_answer, outline_answer}
use Rattle.theorems.specs.Packing.{FitsModel}
use Rattle.theorems.specs.Leads.{At, LeadsSomewhere, IsDistinct}

abbrev pub root_of : Text → Element
root_of tree = element (records tree)

-- ---- the kept tasks

-- all Task elements in Tasks
abbrev pub task_elements : Element → List Element
task_elements root = all_in (child root (bytes "Tasks")) (bytes "Task")

-- it has a UID other than `0`, and a level of at least 1
pub record IsTask (t : Element) : Type 0 where
  pub uid : Text
  pub has : text_in t "UID" ≡ Some uid
  pub other : uid ≡ bytes "0" → ⊥
  pub level : 1 ≤ level_of t

-- the tasks are those of the first 100,000 elements that are so, in their order: each stands at a place there, later ones later, and none is left out
pub record AreKept (elements tasks : List Element) : Type 0 where
  pub place : ℕ → ℕ
  pub stands : (row : ℕ) (t : Element) → At tasks row t → At elements (place row) t
  pub early : (row : ℕ) (t : Element) → At tasks row t → place row < 100000
  pub is_task : (row : ℕ) (t : Element) → At tasks row t → IsTask t
  pub rising : (i j : ℕ) → i < j → j < length tasks → place i < place j
  pub each : (i : ℕ) (t : Element) → i < 100000 → At elements i t → IsTask t → (row : ℕ) × ((place row ≡ i) × At tasks row t)

-- ---- an activity and its task

-- the id of an activity before a row
pub record IdBefore (m : Model) (row : ℕ) (id : Text) : Type 0 where
  pub earlier : ℕ
  pub before : earlier < row
  pub activity : Activity
  pub is : At m.activities earlier activity
  pub named : activity.id ≡ id

-- so many `*`
abbrev pub stars : ℕ → Text
stars zero = []
stars (suc n) = bytes "*" ++ stars n

-- the id that is wanted with so many `*` behind it; with fewer it is the id of an earlier activity
pub record Starred (m : Model) (row : ℕ) (wanted id : Text) : Type 0 where
  pub many : ℕ
  pub is : id ≡ wanted ++ stars many
  pub taken : (k : ℕ) → k < many → IdBefore m row (wanted ++ stars k)

-- the activity of a row is made from its task. Most fields are the task's own. The id asks the ids before it, the parent the levels before it, the kind of a
-- milestone whether a kept link enters the row, the duration MinutesPerDay of the Project, and the calendar the names of the calendars
pub record MadeFrom (root : Element) (m : Model) (row : ℕ) (t : Element) (a : Activity) : Type 0 where
  pub whole : a ≡ activity_of (context_of root) (map (λ (b : Activity). b.id) (take row m.activities)) (map level_of (take row (kept_tasks root))) (entered m.links row) t
  pub uid : text_in t "UID" ≡ Some a.uid
  pub name : a.name ≡ text_in t "Name" or []
  pub notes : a.notes ≡ text_in t "Notes" or []
  pub deadline : a.deadline ≡ date_in t "Deadline"
  pub start : a.start ≡ date_in t "ActualStart"
  pub finish : a.finish ≡ date_in t "ActualFinish"
  pub id : Starred m row (wanted_id t) a.id

-- ---- its parent

-- the row p is earlier than the row, its task is of a lower level, and none between is
pub record Nearest (tasks : List Element) (row p : ℕ) : Type 0 where
  pub earlier : p < row
  pub lower : (t u : Element) → At tasks row t → At tasks p u → level_of u < level_of t
  pub between : (q : ℕ) (t u : Element) → p < q → q < row → At tasks row t → At tasks q u → level_of t ≤ level_of u

-- no earlier task is of a lower level
abbrev pub NoneLower : List Element → ℕ → Type 0
NoneLower tasks row = (q : ℕ) (t u : Element) → q < row → At tasks row t → At tasks q u → level_of t ≤ level_of u

abbrev pub IsParent : List Element → ℕ → Option ℕ → Type 0
IsParent tasks row None = NoneLower tasks row
IsParent tasks row (Some p) = Nearest tasks row p

-- ---- link elements

-- the link elements of the kept tasks in order, each with the row of the task it stands in
abbrev pub link_elements : Element → List (ℕ × Element)
link_elements root = flat_map (λ (x : ℕ × Element). map (λ e. (x.0, e)) (all x.1 (bytes "PredecessorLink"))) (numbered 0 (kept_tasks root))

-- the UID that it names is some kept task's
abbrev pub names_one : List Element → Option Text → Bool
names_one tasks None = false
names_one tasks (Some u) = some? (λ t. same (text_in t "UID" or []) u) tasks

abbrev pub goes_across : ℕ × Element → Bool
goes_across x = yes_in x.1 "CrossProject"

abbrev pub dangles : Element → ℕ × Element → Bool
dangles root x = not (goes_across x) && not (names_one (kept_tasks root) (text_in x.1 "PredecessorUID"))

abbrev pub stays : Element → ℕ × Element → Bool
stays root x = not (goes_across x) && names_one (kept_tasks root) (text_in x.1 "PredecessorUID")

-- the row is that of the last task with the UID
pub record LastWith (tasks : List Element) (uid : Option Text) (row : ℕ) : Type 0 where
  pub task : Element
  pub is : At tasks row task
  pub named : text_in task "UID" ≡ uid
  pub last : (q : ℕ) (t : Element) → row < q → At tasks q t → text_in t "UID" ≡ uid → ⊥

-- a link is made from a link element
pub record Joins (root : Element) (x : ℕ × Element) (l : Link) : Type 0 where
  pub predecessor : LastWith (kept_tasks root) (text_in x.1 "PredecessorUID") l.predecessor
  pub successor : l.successor ≡ x.0
  pub whole : l ≡ link_of (context_of root) l.predecessor x.0 x.1

-- ---- durations

-- the sum of the figures in a task's Duration, where it gives minutes
abbrev pub sum_in : Element → Option Float
sum_in t = text_in t "Duration" >>= λ s. found (figures_of (trim s)) >>= λ f. when (le (total_of f) (float 1000000000)) (total_of f)

-- it is not the whole number that it is rounded to
abbrev pub in_part : Option Float → Bool
in_part None = false
in_part (Some x) = not (eq x (float (half_away x)))

-- ---- calendars

-- all Exception elements in Exceptions of a Calendar in Calendars
abbrev pub exception_elements : Element → List Element
exception_elements root = flat_map (λ c. all_in (child c (bytes "Exceptions")) (bytes "Exception")) (all_in (child root (bytes "Calendars")) (bytes "Calendar"))

abbrev pub gives_no_rule : Element → Bool
gives_no_rule x = not (given (rule_of x))

-- that of the root's CalendarUID, else the first, else the default
abbrev pub main_of : Element → Calendar
main_of root = main_calendar root (built_calendars root)

-- ---- all of it

-- of the bytes l that were read from a tree
pub record OfEveryRead (tree : Text) (l : List ℕ) : Type 0 where
  -- the bytes decode to the model of the tree, each part fits its field, and the check passes
  pub model : Model
  pub of_tree : model ≡ model_of (root_of tree)
  pub decodes : decode l ≡ Some model
  pub fits : FitsModel model
  pub passes : check_answer l ≡ 0
  -- so parents lie above, rows are in range, each calendar name used is some calendar's; ids are distinct, and so are expenses
  pub leads : LeadsSomewhere model
  pub differs : IsDistinct model
  -- which tasks are kept
  pub tasks : AreKept (task_elements (root_of tree)) (kept_tasks (root_of tree))
  -- activities are the kept tasks in read order, as many
  pub as_many : length model.activities ≡ length (kept_tasks (root_of tree))
  pub made : (row : ℕ) (t : Element) (a : Activity) → At (kept_tasks (root_of tree)) row t → At model.activities row a → MadeFrom (root_of tree) model row t a
  -- the parent of each is the nearest earlier kept task of a lower level; it has none exactly when there is no such task
  pub parent : (row : ℕ) (a : Activity) → At model.activities row a → IsParent (kept_tasks (root_of tree)) row a.parent
  pub orphan : (row : ℕ) (a : Activity) → At model.activities row a → NoneLower (kept_tasks (root_of tree)) row → a.parent ≡ None
  -- the outline gives them in the same order, each one level below its parent, from 1
  pub order : map (λ (x : ℕ × ℕ). x.0) (outline model) ≡ count 0 (length model.activities)
  pub top : (row : ℕ) (a : Activity) → At model.activities row a → a.parent ≡ None → At (outline model) row (row, 1)
  pub under : (row p level : ℕ) (a : Activity) → At model.activities row a → a.parent ≡ Some p → At (outline model) p (p, level) → At (outline model) row (row, suc level)
  pub outlined : (rows work : ℕ) → 2 * length model.activities ≤ rows → 4 * length model.activities ≤ work → outline_answer l rows work ≡ gives (row_words (outline model))
  -- row k of the links is the k-th link element that is kept, and there are as many
  pub links_many : length model.links ≡ length (keep (stays (root_of tree)) (link_elements (root_of tree)))
  pub link : (k : ℕ) (x : ℕ × Element) (y : Link) → At (keep (stays (root_of tree)) (link_elements (root_of tree))) k x → At model.links k y → Joins (root_of tree) x y
  -- dangling and across are how many are so, and kept, dangling and across are all
  pub dangling : model.project.dangling ≡ length (keep (dangles (root_of tree)) (link_elements (root_of tree)))
  pub across : model.project.across ≡ length (keep goes_across (link_elements (root_of tree)))
  pub sum : length model.links + (model.project.dangling + model.project.across) ≡ length (link_elements (root_of tree))
  -- fractional is how many kept tasks have a duration whose sum in f64 was not whole minutes
  pub fractional : model.project.fractional ≡ length (keep (λ t. in_part (sum_in t)) (kept_tasks (root_of tree)))
  -- skipped is how many exceptions give no rule
  pub skipped : model.project.skipped ≡ length (keep gives_no_rule (exception_elements (root_of tree)))
  -- the calendar of row 0 is the main one; no activity and no resource names it, so that no name means the main one
  pub main : At model.calendars 0 (main_of (root_of tree))
  pub activity_other : (row : ℕ) (a : Activity) → At model.activities row a → a.calendar ≡ Some (main_of (root_of tree)).name → ⊥
  pub resource_other : (row : ℕ) (r : Resource) → At model.resources row r → r.calendar ≡ Some (main_of (root_of tree)).name → ⊥
