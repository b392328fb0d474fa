-- The amounts of an assignment and of an expense. Assumes nothing.
use Rattle.std.specs.Prelude.{◌^◌, ◌≤◌, ◌≡◌, ℤ, pos, nat_abs}
use Rattle.std.specs.Prelude.{Option}
use Rattle.definition.specs.Base.{◌or◌}
use Rattle.definition.specs.Resource.{unless_left}
use Rattle.resources.specs.declared.assignment.Amounts.{Amounts}

-- small enough to be taken off another
abbrev pub Small : Option ℤ → Type 0
Small o = nat_abs (o or pos 0) ≤ 10 ^ 18

-- planned, actual and remaining, by the three fields of the element
pub record Means (r : Amounts) (planned actual remaining : Option ℤ) : Type 0 where
  pub planned_is : r.planned ≡ (planned or pos 0)
  pub actual_is : r.actual ≡ (actual or pos 0)
  pub remaining_is : r.remaining ≡ unless_left (planned or pos 0) (actual or pos 0) remaining
