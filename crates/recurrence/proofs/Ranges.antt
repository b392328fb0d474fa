-- The days of a WeekDay of DayType 0. Assumes nothing.
use Prim.Native.Nat.{ℕ, zero, suc, ◌+◌, ◌-◌, ◌≤◌, min}
use native.Mathlib.Omega.{arith}
use native.Mathlib.Numerals.{add-one}
use mathlib.Core.Path.{◌≡◌, refl, sym, ap, ◌∙◌}
use mathlib.Core.List.{◌∷◌}
use Rattle.std.specs.Prelude.{Some, None}
use lib.ListN.{length}
use lib.Dec.{leb}
use borrow.Author.Tests.{le-leb}
use Rattle.definition.specs.Base.{keep, count}
use Rattle.definition.specs.Ascii.{bytes}
use Rattle.definition.specs.Date.{Date, last_date}
use Rattle.definition.specs.Tree.{Element, child}
use Rattle.definition.specs.Field.{date_in}
use Rattle.definition.specs.Recurrence.{days_of, most_exception_days}
use Rattle.date.specs.Scale.{count_of_number}
use Rattle.recurrence.specs.Scale.{day_date}
use Rattle.recurrence.specs.Element.{range_by, range_days, RangeRead}
use Rattle.recurrence.proofs.Rules.{field_in}

-- none of them lies past the last date
keep_all : (n a : ℕ) → a + n ≤ suc last_date → keep (λ d. leb d last_date) (count a n) ≡ count a n
unfolding keep count
keep_all zero a h = refl
keep_all (suc n) a h = rw (le-leb a last_date (omega arith), keep_all n (suc a) (omega arith))

count_length : (n a : ℕ) → length (count a n) ≡ n
unfolding count
count_length zero a = refl
count_length (suc n) a = ap suc (count_length n (suc a))

count_first : (a n : ℕ) → count a (suc n) ≡ a ∷ count (suc a) n
unfolding count
count_first a n = refl

-- a run, by its first day and its length
run_range : (a n : ℕ) → Some (record { first = day_date a; count = n + 1 }) ≡ range_by (count a (suc n))
run_range a n = rw (count_first a n, count_length n (suc a), add-one)

run_days : (a n : ℕ) → range_days (Some (record { first = day_date a; count = n + 1 })) ≡ count a (suc n)
unfolding range_days
run_days a n = rw (count_of_number a, add-one)

module _ (x : Element) where
  pub none_read : child x (bytes "TimePeriod") ≡ None → RangeRead x None
  unfolding days_of range_days
  none_read e = record { is = rw e; days = rw e }

  module _ (p : Element) (c : child x (bytes "TimePeriod") ≡ Some p) where
    pub none_from : date_in p "FromDate" ≡ None → RangeRead x None
    unfolding days_of range_days
    none_from f = record { is = rw (c, f); days = rw (c, f) }

    module _ (d : Date) (f : date_in p "FromDate" ≡ Some d) where
      pub none_to : date_in p "ToDate" ≡ None → RangeRead x None
      unfolding days_of range_days
      none_to g = record { is = rw (c, f, g); days = rw (c, f, g) }

      pub range_read : (k : Date) → date_in p "ToDate" ≡ Some k → RangeRead x (Some (record { first = day_date d; count = min (k - d) most_exception_days + 1 }))
      unfolding days_of
      range_read k g =
          let i = field_in p "FromDate" d f in
          let j = field_in p "ToDate" k g in
          let n = min (k - d) most_exception_days in
          let l : days_of x ≡ count d (suc n) = rw (c, f, g) (keep_all (suc n) d (omega (arith, i.high, j.high))) in
          record { is = run_range d n ∙ ap range_by (sym l); days = run_days d n ∙ sym l }
