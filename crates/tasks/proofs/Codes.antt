-- Dates that are given and constraints, by the tests that the code makes. Assumes nothing.
use Rattle.std.specs.Prelude.{if◌then◌else◌}
use Prim.Native.Nat.{ℕ}
use mathlib.Core.Path.{◌≡◌, refl}
use mathlib.Core.Bool.{Bool, true, false}
use Rattle.std.specs.Prelude.{Option, Some, None}
use lib.Dec.{eqb}
use Rattle.definition.specs.Base.{when, given, within}
use Rattle.definition.specs.Date.{Date, day_number}
use Rattle.definition.specs.Task.{constraint_from}
use Rattle.definition.specs.Answer.{date_meaning, day_number_of}
use Rattle.definition.specs.declared.Date.{Date as DayNumber}
use Rattle.std.specs.Option.{is_some}
use Rattle.std.proofs.Common.{rules}
use Rattle.tasks.specs.Task.{day_numbered}

-- ---- dates

pub given_date : (d : Option Date) (a : Option DayNumber) {b : Bool} → b ≡ is_some a → date_meaning a ≡ day_number_of d → b ≡ given d
unfolding day_number_of date_meaning
given_date None None e f = e
given_date None (Some n) e f = search rules
given_date (Some d) None e f = search rules
given_date (Some d) (Some n) e f = e

-- ---- constraints

pub constraint_numbered : (k : ℕ) (d : Option Date) → constraint_from k (day_number_of d) ≡ day_numbered (constraint_from k d)
unfolding day_number_of day_numbered
constraint_numbered k None = by (eqb k 1)
  where
    by : (t : Bool) → when t (1, None) ≡ day_numbered (when t (1, None))
    by true = refl
    by false = refl
constraint_numbered k (Some d) = by (eqb k 1) (within 2 7 k)
  where
    by : (s t : Bool) → (if s then Some (1, None) else when t (k, Some (day_number d))) ≡ day_numbered (if s then Some (1, None) else when t (k, Some d))
    by true t = refl
    by false true = refl
    by false false = refl
