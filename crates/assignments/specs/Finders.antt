-- Assignments and expenses by finders: how a task's row, a work resource's row and a cost resource are found by their UIDs. Assumes nothing.
use Rattle.std.specs.Prelude.{if◌then◌else◌, ◌≡◌, ℕ, ◌+◌, ◌%◌, ◌^◌, ◌≤◌, max, Bool, true, false, List, [], ◌∷◌, ◌++◌, map, length}
use Rattle.index.specs.declared.Table.{Table}
use Rattle.std.proofs.Common.{arith, ◌∙◌}
use Rattle.std.proofs.Math.Path.{refl, ap, fun_ext}
use Rattle.std.specs.Prelude.{Option, Some, None}
use Rattle.std.proofs.Math.ListN.{length-map}
use Rattle.definition.specs.Base.{◌>>=◌, given, find_last, present}
use Rattle.definition.specs.Bits.{Bits}
use Rattle.definition.specs.Text.{Text}
use Rattle.definition.specs.Tree.{Element}
use Rattle.definition.specs.Field.{text_in}
use Rattle.definition.specs.Format.{field, via, whole, times, put_all, ◌⊗◌}
use Rattle.definition.specs.Model.{Assignment, Expense}
use Rattle.definition.specs.Pack.{assignment}
use Rattle.definition.specs.Task.{context_of, kept_tasks, row_of}
use Rattle.definition.specs.Resource.{work_resources, cost_resources, assignment_elements, cost_of, assignment_from, assignment_of, assignments, expense_from, expense_of, firsts, expenses}
use Rattle.laws.specs.Bits.{enc_low}
use Rattle.bits.specs.Steps.{Puts, said}
use Rattle.bits.specs.declared.Place.{Place}
use Rattle.index.specs.Chains.{end_in}
use Rattle.index.specs.Below.{SameBelow, below_in}
use Rattle.rows.specs.Rows.{has_uid}
use Rattle.rows.specs.Tables.{row_in32, row_in, cost_in}
use Rattle.rows.specs.Tabled.{SameFor, row_same, cost_same}
use Rattle.rows.specs.declared.table.Listed.{Listed}
use Rattle.pack.specs.Writes.{Writes}
use Rattle.pack.specs.declared.record.Records.{Records}

pub record Finders : Type 0 where
  pub task : Text → Option ℕ
  pub work : Text → Option ℕ
  pub cost : Text → Option Element

-- as words say it where there are tables
abbrev pub finders_in : Text → Element → List ℕ → Option Table → Option Table → Option Table → Finders
finders_in s root w tasks work cost = record {
  task = row_in s root Listed.Tasks w tasks;
  work = row_in s root Listed.Work w work;
  cost = cost_in s root w cost;
}

-- where three tables end
abbrev pub ends_of : Option Table → Option Table → Option Table → ℕ
ends_of tasks work cost = max (end_in tasks) (max (end_in work) (end_in cost))

-- the task, the work resource and the cost resource that an assignment names
abbrev pub task_by : Finders → Element → Option ℕ
task_by f a = text_in a "TaskUID" >>= f.task

abbrev pub work_by : Finders → Element → Option ℕ
work_by f a = text_in a "ResourceUID" >>= f.work

abbrev pub cost_by : Finders → Element → Option Element
cost_by f a = text_in a "ResourceUID" >>= f.cost

unfoldable pub assignment_for : Finders → Element → Option Assignment
assignment_for f a = if given (cost_by f a) then None else (task_by f a >>= λ t. work_by f a >>= λ r. Some (assignment_from t r a))

unfoldable pub assignments_by : Finders → Element → List Assignment
assignments_by f root = present (map (assignment_for f) (assignment_elements root))

unfoldable pub expense_for : Finders → Element → Option Expense
expense_for f a = task_by f a >>= λ t. cost_by f a >>= λ r. Some (expense_from t r a)

unfoldable pub expenses_by : Finders → Element → List Expense
expenses_by f root = firsts [] (present (map (expense_for f) (assignment_elements root)))

-- ---- words that agree as far as the tables go

same_for : {n : ℕ} {w w' : List ℕ} → SameBelow n w w' → (m : Option Table) → end_in m ≤ n → SameFor m w w'
same_for h m k = record { same = λ t e. below_in h (rw e at k) }

pub finders_same : (s : Text) (root : Element) (tasks work cost : Option Table) {w w' : List ℕ} → SameBelow (ends_of tasks work cost) w w'
    → finders_in s root w' tasks work cost ≡ finders_in s root w tasks work cost
finders_same s root tasks work cost h =
    rw (row_same s root Listed.Tasks (same_for h tasks (omega arith)), row_same s root Listed.Work (same_for h work (omega arith)), cost_same s root (same_for h cost (omega arith)))

-- ---- the definition's

-- the rows and elements of the definition are found, a work resource's row as 32 bits hold it
pub record Finds (root : Element) (f : Finders) : Type 0 where
  pub task : (u : Text) → f.task u ≡ row_of (kept_tasks root) u
  pub work : (u : Text) → f.work u ≡ row_in32 Listed.Work root u
  pub cost : (u : Text) → f.cost u ≡ find_last (has_uid u) (cost_resources root)

-- so many bits hold the resource's row
abbrev low : Assignment → Assignment
low x = record {
  activity = x.activity;
  resource = x.resource % 2 ^ 32;
  planned = x.planned;
  actual = x.actual;
  remaining = x.remaining;
  rate = x.rate;
}

low_bits : (n : ℕ) (x : Assignment) → (whole assignment).put n (low x) ≡ (whole assignment).put n x
unfolding whole assignment via ◌⊗◌ field
low_bits n x = rw (enc_low 32 x.resource)

low_all : (n : ℕ) (xs : List Assignment) → put_all (whole assignment) n (map low xs) ≡ put_all (whole assignment) n xs
unfolding put_all
low_all n [] = refl
low_all n (x ∷ xs) =
    ap (λ (l : Bits). l ++ put_all (whole assignment) (n + length l) (map low xs)) (low_bits n x)
    ∙ ap (λ (l : Bits). (whole assignment).put n x ++ l) (low_all (n + length ((whole assignment).put n x)) xs)

low_put : (j k : ℕ) (xs : List Assignment) {d : List ℕ} {p : Place} {d' : List ℕ} {q : Place} → Puts (times j (whole assignment)) (map low xs) d p d' q → Puts (times k (whole assignment)) xs d p d' q
unfolding times
low_put j k xs x = record { step = said x.step _ (rw low_all) }

module _ {root : Element} {f : Finders} (h : Finds root f) where
  task_is : f.task ≡ row_of (kept_tasks root)
  task_is = fun_ext h.task

  work_is : f.work ≡ row_in32 Listed.Work root
  work_is = fun_ext h.work

  cost_is : f.cost ≡ λ u. find_last (has_uid u) (cost_resources root)
  cost_is = fun_ext h.cost

  low_for : (a : Element) → assignment_for f a ≡ (assignment_of (context_of root) root a >>= λ x. Some (low x))
  unfolding assignment_for assignment_of context_of assignment_from
  low_for a =
      rw (task_is, work_is, cost_is) (by (given (cost_of root a)) (text_in a "TaskUID" >>= row_of (kept_tasks root)) (text_in a "ResourceUID"))
    where
      by_row : (t : ℕ) (o : Option ℕ) → ((o >>= λ n. Some (n % 2 ^ 32)) >>= λ r. Some (assignment_from t r a)) ≡ ((o >>= λ r. Some (assignment_from t r a)) >>= λ x. Some (low x))
      by_row t None = refl
      by_row t (Some n) = refl

      by : (b : Bool) (o : Option ℕ) (u : Option Text)
          → (if b then None else (o >>= λ t. (u >>= row_in32 Listed.Work root) >>= λ r. Some (assignment_from t r a)))
          ≡ ((if b then None else (o >>= λ t. (u >>= row_of (work_resources root)) >>= λ r. Some (assignment_from t r a))) >>= λ x. Some (low x))
      by true o u = refl
      by false None u = refl
      by false (Some t) None = refl
      by false (Some t) (Some u) = by_row t (row_of (work_resources root) u)

  low_present : (es : List Element) → present (map (assignment_for f) es) ≡ map low (present (map (assignment_of (context_of root) root) es))
  unfolding present
  low_present [] = refl
  low_present (e ∷ es) = ap (λ (o : Option Assignment). present (o ∷ map (assignment_for f) es)) (low_for e) ∙ by (assignment_of (context_of root) root e) (low_present es)
    where
      by : (o : Option Assignment) → present (map (assignment_for f) es) ≡ map low (present (map (assignment_of (context_of root) root) es))
          → present ((o >>= λ x. Some (low x)) ∷ map (assignment_for f) es) ≡ map low (present (o ∷ map (assignment_of (context_of root) root) es))
      by None h = h
      by (Some x) h = ap (λ (l : List Assignment). low x ∷ l) h

  -- the assignments that are written are the definition's
  pub assignments_found : {d : List ℕ} {p : Place} {d' : List ℕ} {r : Records} → Writes (whole assignment) (assignments_by f root) d p d' r → Writes (whole assignment) (assignments (context_of root) root) d p d' r
  unfolding assignments_by assignments
  assignments_found w =
      let xs = present (map (assignment_of (context_of root) root) (assignment_elements root)) in
      let e : assignments_by f root ≡ map low xs = low_present (assignment_elements root) in
      record { puts = low_put _ _ xs (rw e at w.puts); counts = w.counts ∙ ap (λ (n : ℕ). n % 2 ^ 32) (ap length e ∙ length-map xs low) }

  -- and so are the expenses
  expense_for_lem : (a : Element) → expense_for f a ≡ expense_of (context_of root) root a
  unfolding expense_for expense_of context_of
  expense_for_lem a = rw (task_is, cost_is)

  pub expenses_found : expenses_by f root ≡ expenses (context_of root) root
  unfolding expenses_by expenses
  expenses_found = ap (λ (g : Element → Option Expense). firsts [] (present (map g (assignment_elements root)))) (fun_ext expense_for_lem)
