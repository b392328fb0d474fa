-- The records of some elements, behind those that were made before. Assumes nothing: these are definitions.
use Rattle.std.specs.Prelude.{◌≡◌, ℕ, ◌^◌, ◌<◌, Bool, true, ◌&&◌, List, [], ◌∷◌, ◌++◌, map, length, ◌==◌}
use Rattle.std.specs.Prelude.{Option, Some}
use Rattle.definition.specs.Base.{◌or◌, present, some?, same}
use Rattle.definition.specs.Text.{Text}
use Rattle.definition.specs.Tree.{Element}
use Rattle.definition.specs.Bits.{Bits}
use Rattle.definition.specs.Format.{whole, times}
use Rattle.definition.specs.Pack.{assignment}
use Rattle.definition.specs.Model.{Assignment, Expense}
use Rattle.definition.specs.Resource.{firsts}
use Rattle.laws.specs.Each.{Each}
use Rattle.laws.specs.FitRecords.{Short, FitsExpenseBy}
use Rattle.bits.specs.Reads.{rest, Reads, taken_at}
use Rattle.bits.specs.declared.Place.{Place}
use Rattle.model.specs.Answers.{read_at}
use Rattle.model.specs.Parts.{raw}
use Rattle.names.specs.Records.{ExpenseFields, plain_expenses}
use Rattle.tree.specs.Root.{root_at}
use Rattle.assignments.specs.declared.section.Done.{Done}
use Rattle.assignments.specs.declared.section.Tables.{Tables}
use Rattle.assignments.specs.Section.{Goes}
use Rattle.assignments.specs.Finders.{Finders, finders_in, ends_of, assignment_for, expense_for}

-- ---- assignments

-- by the tables of a section
abbrev pub finders_at : List ℕ → Tables → Finders
finders_at w t = finders_in t.root.tree.now (root_at t.root) w t.tasks t.work t.cost

-- where they end
abbrev pub ends_at : Tables → ℕ
ends_at t = ends_of t.tasks t.work t.cost

abbrev pub assignments_in : Finders → List Element → List Assignment
assignments_in f es = present (map (assignment_for f) es)

-- one that may be missing is added
abbrev pub AddsAssignment : Option Assignment → List ℕ → Done → List ℕ → Done → Type 0
AddsAssignment o d r d' r' = (p : Place) → Goes (whole assignment) true p (λ d₀ xs. Unit {0}) (λ d₀ xs. xs ++ present (o ∷ [])) d r d' r'

-- ---- expenses

abbrev pub expenses_after : Finders → List Expense → List Element → List Expense
expenses_after f done es = firsts done (present (map (expense_for f) es))

-- whether the expense at a place is of an activity and has a name
unfoldable pub is_expense_at : List ℕ → Place → ℕ → Text → Bool
is_expense_at d p activity name = activity == (taken_at d p 32).value && same name ((read_at raw d (taken_at d p 32).next).0 or [])

-- the same of its fields
abbrev pub is_key : ℕ → Text → ExpenseFields → Bool
is_key activity name t = activity == t.0 && same name t.1.0

-- where so many stand from a place on, t is whether one of them is
pub record Tells (d : List ℕ) (p : Place) (n activity : ℕ) (name : Text) (t : Bool) : Type 0 where
  pub tells : (ts : List ExpenseFields) (end : Place) (l : Bits) → rest d end ≡ Some l → Reads (times n plain_expenses) d p ts end → t ≡ some? (is_key activity name) ts

abbrev pub FewExpenses : List ℕ → List Expense → Type 0
FewExpenses d₀ xs = Each (FitsExpenseBy Short) xs × (length xs < 2 ^ 64)
