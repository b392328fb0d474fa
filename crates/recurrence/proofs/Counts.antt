-- Days and years on the scale, and as they are written. Assumes nothing.
use Prim.Native.Nat.{ℕ, suc, ◌+◌, ◌-◌, ◌<◌, ◌^◌, min}
use Rattle.definition.specs.declared.Date.{Date as DayNumber}
use native.Mathlib.Omega.{arith}
use native.Mathlib.Decide.{dec_lt}
use mathlib.Core.Path.{◌≡◌, refl, sym, ap, ◌∙◌}
use Rattle.std.specs.Prelude.{Option, Some, None}
use lib.IntN.{ℤ, pos, nat_abs, ◌+ℤ◌, ◌-ℤ◌, -ℤ-+ℤ_cancel}
use borrow.Author.Tests.{lt-ltb, le-ltb, le-leb}
use Rattle.definition.specs.Date.{Date, month_length, year_at, from_ymd, day_number, ymd_of}
use Rattle.definition.specs.Answer.{date_meaning, day_number_of}
use Rattle.definition.specs.declared.Ymd.{Ymd}
use Rattle.date.specs.Answer.{length_at, ymd_at}
use Rattle.date.specs.Scale.{day_count, count_of_number, at_most_lem}
use Rattle.recurrence.specs.Scale.{InDates, IsYear, IsMonth, day_date, count_by, day_in}
use Rattle.recurrence.proofs.Dates.{days_back}

-- ---- answers

pub count_said : (a : Option DayNumber) (o : Option Date) → date_meaning a ≡ day_number_of o → count_by a ≡ o
unfolding date_meaning day_number_of
count_said (Some d) None e = let z : ◌≡◌ {A = ℕ} 0 1 = cc in absurd (omega arith)
count_said (Some d) (Some n) e = let q : d.0 ≡ day_number n = cc in ap Some (ap day_count q ∙ count_of_number n)
count_said None None e = refl
count_said None (Some n) e = let z : ◌≡◌ {A = ℕ} 0 1 = cc in absurd (omega arith)

-- the date of a count
pub dated : {d : DayNumber} {n : ℕ} → d.0 ≡ pos (min n 2147483647) -ℤ pos 4371953 → n < 2 ^ 31 → d ≡ day_date n
unfolding day_number
dated e h = λ i. record { 0 = at_most_lem e h i }

-- ---- years

pub year_of_number : (y : ℕ) → IsYear y → year_at (pos y -ℤ pos 10000) ≡ Some y
unfolding year_at
year_of_number y h = by (dec_lt y 10000)
  where
    by : Dec (y < 10000) → year_at (pos y -ℤ pos 10000) ≡ Some y
    by (yes l) =
        let q : 9999 - (10000 - suc y) ≡ y = omega arith in
        rw (lt-ltb y 10000 l, lt-ltb (10000 - suc y) 9999 (omega arith), q)
    by (no g) =
        let q : 10000 + (y - 10000) ≡ y = omega arith in
        rw (le-ltb y 10000 (omega arith), le-leb (y - 10000) 9999 (omega arith), q)

pub year_same : (a b : ℕ) → pos a -ℤ pos 10000 ≡ pos b -ℤ pos 10000 → a ≡ b
year_same a b e =
    ap nat_abs (sym (-ℤ-+ℤ_cancel (pos a) (pos 10000)) ∙ ap (λ (z : ℤ). z +ℤ pos 10000) e ∙ -ℤ-+ℤ_cancel (pos b) (pos 10000))

module _ (y m : ℕ) (h : IsYear y) (i : IsMonth m) (z : ℤ) (e : z ≡ pos y -ℤ pos 10000) where
  pub day_by_lem : (day : ℕ) → from_ymd z m day ≡ day_in y m day
  unfolding from_ymd day_in
  day_by_lem day = rw (e, year_of_number y h, le-leb 1 m i.0, le-leb m 12 i.1)

  pub length_by_lem : length_at z m ≡ Some (month_length y m)
  unfolding length_at
  length_by_lem = rw (e, year_of_number y h, le-leb 1 m i.0, le-leb m 12 i.1)

-- ---- the day of the calendar

module _ (d : Date) (h : InDates d) (z : ℤ) (e : z ≡ day_number d) (a : Option Ymd) (said : a ≡ ymd_at z) where
  ymd_by : ymd_at z ≡ Some (ymd_of d)
  unfolding ymd_at
  ymd_by = rw (e, days_back d h)

  pub ymd_is : (c : Ymd) → a ≡ Some c → c ≡ ymd_of d
  ymd_is c q = let p : Some c ≡ Some (ymd_of d) = sym (q) ∙ said ∙ ymd_by in cc

  pub ymd_there : a ≡ None → ⊥
  ymd_there q =
      let p : None ≡ Some (ymd_of d) = sym (q) ∙ said ∙ ymd_by in
      let x : ◌≡◌ {A = ℕ} 0 1 = cc in
      omega arith
