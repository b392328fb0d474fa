-- A date text gives a date of the years -9999 to 9999, and its day number gives it back. Assumes nothing.
use Prim.Native.Nat.{suc, ◌+◌, ◌-◌, ◌<◌}
use native.Mathlib.Omega.{arith}
use native.Mathlib.Decide.{dec_lt}
use mathlib.Core.Path.{◌≡◌, refl, subst}
use Rattle.std.specs.Prelude.{Option, Some, None}
use borrow.Author.Tests.{lt-ltb, le-ltb, le-leb}
use Rattle.definition.specs.Base.{◌>>=◌}
use Rattle.definition.specs.Text.{Text}
use Rattle.definition.specs.Date.{Date, epoch, first_date, last_date, from_days, day_number, date_of}
use Rattle.definition.specs.Answer.{day_number_of}
use Rattle.recurrence.specs.Scale.{InDates}
use Rattle.laws.specs.Formats.{IfGiven}
use Rattle.laws.specs.Fields.{InYears}
use Rattle.laws.specs.FitLists.{is_given_lem}
use Rattle.laws.specs.FitFields.{date_of_lem}

pub days_back : (d : Date) → InDates d → from_days (day_number d) ≡ Some d
unfolding from_days day_number
days_back d h = by (dec_lt d epoch)
  where
    by : Dec (d < epoch) → from_days (day_number d) ≡ Some d
    by (yes l) =
        let q : epoch - suc (4371953 - suc d) ≡ d = omega arith in
        rw (lt-ltb d epoch l, lt-ltb (4371953 - suc d) epoch (omega arith), q, le-leb first_date d h.low, le-leb d last_date h.high)
    by (no g) =
        let q : d - 4371953 + epoch ≡ d = omega arith in
        rw (le-ltb d epoch (omega arith), q, le-leb first_date d h.low, le-leb d last_date h.high)

pub date_in_lem : (s : Text) (d : Date) → date_of s ≡ Some d → InDates d
date_in_lem s d e = let h : InYears d = subst (IfGiven InYears) e (is_given_lem (date_of_lem s)) in record { low = h.0; high = h.1 }

-- a date text's number, and the date of that number
pub back : (s : Text) → (day_number_of (date_of s) >>= from_days) ≡ date_of s
unfolding day_number_of
back s = by (date_of s) refl
  where
    by : (o : Option Date) → date_of s ≡ o → ((o >>= λ d. Some (day_number d)) >>= from_days) ≡ o
    by None e = refl
    by (Some d) e = days_back d (date_in_lem s d e)
