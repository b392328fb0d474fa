-- The resources, the assignments and the expenses that the definition makes of a tree fit, by what a text is. Assumes nothing.
use Rattle.std.specs.Prelude.{if◌then◌else◌, Bool, true, false, not, ℕ, ◌^◌, ◌≤◌, ◌<◌, ℤ, length}
use mathlib.Core.List.{List, []}
use Rattle.std.specs.Prelude.{Option}
use Rattle.std.proofs.Common.{arith}
use Rattle.std.proofs.Math.IntN.{pos}
use Rattle.definition.specs.Base.{◌or◌, ◌or_else◌}
use Rattle.definition.specs.Text.{Text}
use Rattle.definition.specs.Tree.{Element}
use Rattle.definition.specs.Field.{text_in, int_in, number_in}
use Rattle.definition.specs.Calendar.{Named}
use Rattle.definition.specs.Task.{Context}
use Rattle.definition.specs.Resource.{is_int, resource_of, sameℤ, other_than, left_of, hours_in, money_in, assignment_from, expense_from}
use Rattle.laws.specs.Bools.{Within}
use Rattle.laws.specs.Each.{Each}
use Rattle.laws.specs.FitRecords.{IsNumber, FitsResourceBy, FitsAssignment, FitsExpenseBy}
use Rattle.laws.specs.FitLists.{Perhaps, is_given_lem, perhaps_or, perhaps_else, perhaps_when, perhaps_bind, perhaps_any}
use Rattle.laws.specs.FitTrees.{Holds, Texts, says}
use Rattle.laws.specs.FitCalendars.{text_none, text_free, name_of_lem}
use Rattle.laws.specs.FitActivities.{text_in_lem, unless_main_lem}
use Rattle.laws.specs.FitAmounts.{units_number, price_number, money_in_lem, hours_in_lem}

resource_kind_lem : (t : Bool) → Within 0 2 (if t then 2 else 0)
resource_kind_lem true = (omega arith, omega arith)
resource_kind_lem false = (omega arith, omega arith)

accrual_kind : (t u : Bool) → Within 0 2 (if t then 0 else if u then 1 else 2)
accrual_kind true u = (omega arith, omega arith)
accrual_kind false true = (omega arith, omega arith)
accrual_kind false false = (omega arith, omega arith)

-- a number or another
number_or : (n : ℕ) {o : Option ℤ} → n ≤ 100 → Perhaps IsNumber o → IsNumber (o or pos n)
number_or n k h = perhaps_or {P = IsNumber} (pos n) h (small n k)
  where
    small : (n : ℕ) → n ≤ 100 → IsNumber (pos n)
    small n k = omega arith

other_than_lem : (z : ℤ) {o : Option ℤ} → Perhaps IsNumber o → Perhaps IsNumber (other_than z o)
other_than_lem z h = perhaps_bind h (λ y k. perhaps_when (not (sameℤ y z)) y (λ e. k))

module _ {S T : Text → Type 0} (texts : Texts S T) where
  pub fit_resource : (x : Context) (ids : List Text) {r : Element} → Holds S r → Each (λ (n : Named). T n.1.name) x.built → length ids ≤ 5000000
      → FitsResourceBy T (resource_of x ids r)
  unfolding resource_of
  fit_resource x ids {r} h b i =
      let id = perhaps_or {P = S} [] (perhaps_else (says texts h "ID") (says texts h "UID")) (text_none texts) in (
        text_free texts ids ((text_in r "ID" or_else text_in r "UID") or []) id i,
        (
          text_in_lem texts h "Name",
          (
            resource_kind_lem (is_int (int_in r "Type") 0),
            (
              text_in_lem texts h "MaterialLabel",
              (
                number_or 100 (omega arith) (perhaps_any (number_in r "MaxUnits") units_number),
                (
                  is_given_lem (perhaps_bind (perhaps_any (text_in r "CalendarUID") (λ u. name_of_lem {T = T} u b)) (unless_main_lem texts x)),
                  is_given_lem (perhaps_any (number_in r "StandardRate") price_number),
                ),
              ),
            ),
          ),
        ),
      )

  pub fit_expense : (row : ℕ) {r : Element} (a : Element) → Holds S r → row < 2 ^ 32 → FitsExpenseBy T (expense_from row r a)
  unfolding expense_from
  fit_expense row {r} a h k = (
    k,
    (
      text_in_lem texts h "Name",
      (
        number_or 0 (omega arith) (money_in_lem a "Cost"),
        (
          number_or 0 (omega arith) (money_in_lem a "ActualCost"),
          (is_given_lem (other_than_lem (left_of (money_in a "Cost" or pos 0) (money_in a "ActualCost" or pos 0)) (money_in_lem a "RemainingCost")), accrual_kind (is_int (int_in r "AccrueAt") 1) (is_int (int_in r "AccrueAt") 2)),
        ),
      ),
    ),
  )

pub fit_assignment : (t r : ℕ) (a : Element) → t < 2 ^ 32 → r < 2 ^ 32 → FitsAssignment (assignment_from t r a)
unfolding assignment_from
fit_assignment t r a h k = (
  h,
  (
    k,
    (
      number_or 0 (omega arith) (hours_in_lem a "Work"),
      (
        number_or 0 (omega arith) (hours_in_lem a "ActualWork"),
        (
          is_given_lem (other_than_lem (left_of (hours_in a "Work" or pos 0) (hours_in a "ActualWork" or pos 0)) (hours_in_lem a "RemainingWork")),
          is_given_lem (other_than_lem (pos 100) (perhaps_any (number_in a "Units") units_number)),
        ),
      ),
    ),
  ),
)
