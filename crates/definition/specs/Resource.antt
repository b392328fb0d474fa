-- Resources, assignments and expenses. MSPDI: Type 0 is material, 1 work, 2 cost; a cost resource's assignments are expenses on the task, named
-- after it and accrued as AccrueAt says (1 start, 2 end, 3 prorated). Units 1 is 100 %. Document 01 and the Rust: UID and Name must both be
-- there, and UID `0` is skipped; of equal UIDs the last is meant; one UID may be a cost and a work resource at once, and then the cost
-- resource wins; work is in hundredths of an hour, minutes × 100 / 60 in whole numbers; money in hundredths, rounded half away from zero; a
-- remaining that equals planned less actual, at least 0, is dropped, as is a rate of 100; of two expenses with equal activity and name the
-- first is kept. Assumes nothing.
use Rattle.std.specs.Prelude.{if◌then◌else◌, ℕ, ◌*◌, ◌/◌, ◌^◌, Bool, false, ◌&&◌, not, List, [], ◌∷◌, ◌++◌, map, eqb, ℤ, pos, negsuc, ◌-ℤ◌, Float}
use Rattle.std.specs.Prelude.{Option, Some, None}
use Prim.Native.String.{String}
use Rattle.std.specs.Float.Ieee.{lt, neg}
use Rattle.definition.specs.Base.{◌>>=◌, ◌or◌, ◌or_else◌, when, given, keep, find_last, present, some?, same}
use Rattle.definition.specs.Ascii.{bytes}
use Rattle.definition.specs.Text.{Text}
use Rattle.definition.specs.Number.{hundredths, between, float, zero_float}
use Rattle.definition.specs.Tree.{Element, child, all_in}
use Rattle.definition.specs.Field.{text_in, int_in, number_in, minutes_in}
use Rattle.definition.specs.Model.{Resource, Assignment, Expense}
use Rattle.definition.specs.Calendar.{name_of, free}
use Rattle.definition.specs.Task.{Context, not_below0, own_uid, row_of, unless_main}

abbrev pub is_int : Option ℤ → ℕ → Bool
is_int None m = false
is_int (Some (pos n)) m = eqb n m
is_int (Some (negsuc n)) m = false

-- ---- resources

abbrev pub is_resource : Element → Bool
is_resource r = own_uid r && given (text_in r "Name")

abbrev pub resource_elements : Element → List Element
resource_elements root = keep is_resource (all_in (child root (bytes "Resources")) (bytes "Resource"))

abbrev pub is_cost : Element → Bool
is_cost r = is_int (int_in r "Type") 2

abbrev pub work_resources : Element → List Element
work_resources root = keep (λ r. not (is_cost r)) (resource_elements root)

abbrev pub cost_resources : Element → List Element
cost_resources root = keep is_cost (resource_elements root)

-- 0 labor, 2 material
abbrev pub resource_kind : Element → ℕ
resource_kind r = if is_int (int_in r "Type") 0 then 2 else 0

-- hundredths of units, from 0 to 1,000,000
abbrev pub units_from : Float → Option ℤ
units_from u = when (between 0 1000000 u) (hundredths u)

abbrev pub max_units : Element → ℤ
max_units r = (number_in r "MaxUnits" >>= units_from) or pos 100

-- hundredths of StandardRate, above 0 and below 10 ^ 13
abbrev pub price_from : Float → Option ℤ
price_from p = when (lt zero_float p && lt p (float (10 ^ 13))) (hundredths p)

abbrev pub price_of : Element → Option ℤ
price_of r = number_in r "StandardRate" >>= price_from

unfoldable pub resource_of : Context → List Text → Element → Resource
resource_of x ids r = record {
  id = free ids ((text_in r "ID" or_else text_in r "UID") or []);
  name = text_in r "Name" or [];
  kind = resource_kind r;
  unit = text_in r "MaterialLabel" or [];
  max_units = max_units r;
  calendar = text_in r "CalendarUID" >>= name_of x.built >>= unless_main x;
  price = price_of r;
}

unfoldable pub resources_after : Context → List Resource → List Element → List Resource
resources_after x done [] = done
resources_after x done (r ∷ rs) = resources_after x (done ++ (resource_of x (map (λ (d : Resource). d.id) done) r ∷ [])) rs

unfoldable pub resources : Context → Element → List Resource
resources x root = resources_after x [] (work_resources root)

-- ---- assignments

abbrev pub assignment_elements : Element → List Element
assignment_elements root = all_in (child root (bytes "Assignments")) (bytes "Assignment")

-- the task, the cost resource and the work resource that an assignment names
abbrev pub task_row : Context → Element → Option ℕ
task_row x a = text_in a "TaskUID" >>= row_of x.tasks

abbrev pub cost_of : Element → Element → Option Element
cost_of root a = text_in a "ResourceUID" >>= λ u. find_last (λ r. same (text_in r "UID" or []) u) (cost_resources root)

abbrev pub resource_row : Element → Element → Option ℕ
resource_row root a = text_in a "ResourceUID" >>= row_of (work_resources root)

abbrev pub sameℤ : ℤ → ℤ → Bool
sameℤ (pos m) (pos n) = eqb m n
sameℤ (pos m) (negsuc n) = false
sameℤ (negsuc m) (pos n) = false
sameℤ (negsuc m) (negsuc n) = eqb m n

-- a number unless it is z
abbrev pub other_than : ℤ → Option ℤ → Option ℤ
other_than z o = o >>= λ y. when (not (sameℤ y z)) y

-- planned less actual, at least 0, and a remaining that is something else
abbrev pub left_of : ℤ → ℤ → ℤ
left_of planned actual = pos (not_below0 (planned -ℤ actual))

abbrev pub unless_left : ℤ → ℤ → Option ℤ → Option ℤ
unless_left planned actual r = other_than (left_of planned actual) r

-- minutes in hundredths of an hour
abbrev pub hours_from : ℕ → Option ℤ
hours_from m = Some (pos (m * 100 / 60))

abbrev pub hours_in : Element → String → Option ℤ
hours_in a name = minutes_in a name >>= hours_from

abbrev pub rate_of : Element → Option ℤ
rate_of a = other_than (pos 100) (number_in a "Units" >>= units_from)

unfoldable pub assignment_from : ℕ → ℕ → Element → Assignment
assignment_from activity resource a =
    let planned = hours_in a "Work" or pos 0 in
    let actual = hours_in a "ActualWork" or pos 0 in
    record {
      activity = activity;
      resource = resource;
      planned = planned;
      actual = actual;
      remaining = unless_left planned actual (hours_in a "RemainingWork");
      rate = rate_of a;
    }

unfoldable pub assignment_of : Context → Element → Element → Option Assignment
assignment_of x root a =
    if given (cost_of root a) then None else
    (task_row x a >>= λ t. resource_row root a >>= λ r. Some (assignment_from t r a))

unfoldable pub assignments : Context → Element → List Assignment
assignments x root = present (map (assignment_of x root) (assignment_elements root))

-- ---- expenses

-- hundredths of an amount, below 10 ^ 13 either way
abbrev pub money_from : Float → Option ℤ
money_from m = when (lt (neg (float (10 ^ 13))) m && lt m (float (10 ^ 13))) (hundredths m)

abbrev pub money_in : Element → String → Option ℤ
money_in a name = number_in a name >>= money_from

abbrev pub accrual_of : Element → ℕ
accrual_of r = if is_int (int_in r "AccrueAt") 1 then 0 else if is_int (int_in r "AccrueAt") 2 then 1 else 2

unfoldable pub expense_from : ℕ → Element → Element → Expense
expense_from activity r a =
    let planned = money_in a "Cost" or pos 0 in
    let actual = money_in a "ActualCost" or pos 0 in
    record {
      activity = activity;
      name = text_in r "Name" or [];
      planned = planned;
      actual = actual;
      remaining = unless_left planned actual (money_in a "RemainingCost");
      accrual = accrual_of r;
    }

unfoldable pub expense_of : Context → Element → Element → Option Expense
expense_of x root a = task_row x a >>= λ t. cost_of root a >>= λ r. Some (expense_from t r a)

abbrev pub same_expense : Expense → Expense → Bool
same_expense e f = eqb e.activity f.activity && same e.name f.name

-- the first of equal ones
unfoldable pub firsts : List Expense → List Expense → List Expense
firsts done [] = done
firsts done (e ∷ es) = firsts (if some? (same_expense e) done then done else done ++ (e ∷ [])) es

unfoldable pub expenses : Context → Element → List Expense
expenses x root = firsts [] (present (map (expense_of x root) (assignment_elements root)))
