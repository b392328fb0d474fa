-- The laws of the calendar. Assumes nothing.
use Rattle.std.specs.Prelude.{if◌then◌else◌, ℕ, zero, suc, ◌+◌, ◌-◌, ◌*◌, ◌/◌, ◌%◌, ◌≤◌, ◌<◌, ◌≡◌, refl, Bool, true, false, ◌&&◌, ◌||◌, not, leb, ltb, eqb}
use Rattle.std.proofs.Common.{arith, add-one, sym, ap, ◌∙◌, eqb→eq, eqb-true, ne_eqb, lt-ltb, le-ltb}
use Rattle.std.proofs.Math.Decide.{dec_lt}
use Rattle.std.proofs.lemmas.Bool.{eqb-false}
use Rattle.definition.specs.Date.{leap, year_length, month_length, years_length, months_length, cycle, new_year, date_at, year_within, month_within, year_of, month_of, day_of, first_date, last_date}
use Rattle.definition.specs.Format.{bit}
use Rattle.laws.specs.Rows.{last, last_within, last_reached, last_passed, rising, last_found, at}

-- ---- years

-- 1 in a leap year
abbrev pub leap_day : ℕ → ℕ
leap_day y = bit (leap y)

pub year_length_lem : (y : ℕ) → year_length y ≡ 365 + leap_day y
unfolding year_length
year_length_lem y = by (leap y)
  where
    by : (t : Bool) → (if t then 366 else 365) ≡ 365 + bit t
    by true = refl
    by false = refl

-- the calendar repeats
leap_again : (y : ℕ) → leap (y % 400) ≡ leap y
unfolding leap
leap_again y =
    let a : y % 400 % 4 ≡ y % 4 = omega arith in
    let b : y % 400 % 100 ≡ y % 100 = omega arith in
    let c : y % 400 % 400 ≡ y % 400 = omega arith in
    rw (a, b, c)

years_next : (k : ℕ) → years_length (suc k) ≡ years_length k + year_length k
unfolding years_length
years_next k = refl

full : years_length 400 ≡ cycle
unfolding years_length year_length leap
full = refl

year_length_again : (y : ℕ) → year_length (y % 400) ≡ year_length y
unfolding year_length
year_length_again y = rw (leap_again y)

years_zero : years_length 0 ≡ 0
unfolding years_length
years_zero = refl

-- a new year comes a year after the last
pub new_year_next : (y : ℕ) → new_year (y + 1) ≡ new_year y + year_length y
unfolding new_year
new_year_next y = by (dec_lt (y % 400) 399)
  where
    by : Dec (y % 400 < 399) → (y + 1) / 400 * cycle + years_length ((y + 1) % 400) ≡ y / 400 * cycle + years_length (y % 400) + year_length y
    by (yes l) =
        let e : (y + 1) % 400 ≡ suc (y % 400) = omega arith in
        let q : (y + 1) / 400 ≡ y / 400 = omega arith in
        rw (e, q, years_next, year_length_again) (omega arith)
    by (no g) =
        let e : (y + 1) % 400 ≡ 0 = omega arith in
        let q : (y + 1) / 400 ≡ suc (y / 400) = omega arith in
        let k : y % 400 ≡ 399 = omega arith in
        let s : years_length (y % 400) + year_length (y % 400) ≡ cycle = sym (years_next (y % 400)) ∙ ap (λ (j : ℕ). years_length (suc j)) k ∙ full in
        rw (e, q, years_zero) (omega (arith, year_length_again y))

-- how the three counts of leap days go on
fours : (y : ℕ) (t : Bool) → eqb (y % 4) 0 ≡ t → (y + 4) / 4 ≡ (y + 3) / 4 + bit t
fours y true e = omega (arith, eqb-true (y % 4) 0 e)
fours y false e = omega (arith, eqb-false (y % 4) 0 e)

hundreds : (y : ℕ) (t : Bool) → eqb (y % 100) 0 ≡ t → (y + 100) / 100 ≡ (y + 99) / 100 + bit t
hundreds y true e = omega (arith, eqb-true (y % 100) 0 e)
hundreds y false e = omega (arith, eqb-false (y % 100) 0 e)

cycles : (y : ℕ) (t : Bool) → eqb (y % 400) 0 ≡ t → (y + 400) / 400 ≡ (y + 399) / 400 + bit t
cycles y true e = omega (arith, eqb-true (y % 400) 0 e)
cycles y false e = omega (arith, eqb-false (y % 400) 0 e)

leap_one : (y : ℕ) (a b c : Bool) → eqb (y % 4) 0 ≡ a → eqb (y % 100) 0 ≡ b → eqb (y % 400) 0 ≡ c → bit (a && (not b || c)) + bit b ≡ bit a + bit c
leap_one y true true true p q r = refl
leap_one y true true false p q r = refl
leap_one y true false true p q r = absurd (eqb-false (y % 100) 0 q (omega (arith, eqb-true (y % 400) 0 r)))
leap_one y true false false p q r = refl
leap_one y false true c p q r = absurd (eqb-false (y % 4) 0 p (omega (arith, eqb-true (y % 100) 0 q)))
leap_one y false false true p q r = absurd (eqb-false (y % 100) 0 q (omega (arith, eqb-true (y % 400) 0 r)))
leap_one y false false false p q r = refl

leap_days : (y : ℕ) → leap_day y + (y + 3) / 4 + (y + 399) / 400 + (y + 100) / 100 ≡ (y + 4) / 4 + (y + 400) / 400 + (y + 99) / 100
unfolding leap
leap_days y =
    let a = eqb (y % 4) 0 in
    let b = eqb (y % 100) 0 in
    let c = eqb (y % 400) 0 in
    rw (fours y a refl, hundreds y b refl, cycles y c refl) (sum (leap_day y) ((y + 3) / 4) ((y + 399) / 400) ((y + 99) / 100) (bit a) (bit b) (bit c) (leap_one y a b c refl refl refl))
  where
    sum : (l p q r a b c : ℕ) → l + b ≡ a + c → l + p + q + (r + b) ≡ p + a + (q + c) + r
    sum l p q r a b c e = omega arith

new_year_zero : new_year 0 + 99 / 100 ≡ 365 * 0 + 3 / 4 + 399 / 400
unfolding new_year years_length
new_year_zero = refl

-- 1 January, by the leap days before it
pub new_year_lem : (y : ℕ) → new_year y + (y + 99) / 100 ≡ 365 * y + (y + 3) / 4 + (y + 399) / 400
new_year_lem zero = new_year_zero
new_year_lem (suc y) =
    let n : new_year (suc y) ≡ new_year y + (365 + leap_day y) = ap new_year (sym (add-one y)) ∙ new_year_next y ∙ ap (λ (k : ℕ). new_year y + k) (year_length_lem y) in
    let p : suc y + 99 ≡ y + 100 = omega arith in
    let q : suc y + 3 ≡ y + 4 = omega arith in
    let r : suc y + 399 ≡ y + 400 = omega arith in
    rw (n, p, q, r) (sum (new_year y) (leap_day y) ((y + 3) / 4) ((y + 99) / 100) ((y + 399) / 400) _ _ _ (new_year_lem y) (leap_days y))
  where
    sum : (n l a b c a' b' c' : ℕ) → n + b ≡ 365 * y + a + c → l + a + c + b' ≡ a' + c' + b → n + (365 + l) + b' ≡ 365 * suc y + a' + c'
    sum n l a b c a' b' c' e f = omega arith

years_rise : (k : ℕ) → years_length k ≤ years_length (suc k)
years_rise k = omega (arith, years_next k)

years_last : (k n : ℕ) → year_within k n ≡ last years_length k n
unfolding year_within last
years_last zero n = refl
years_last (suc k) n = rw (years_last k n)

years_zero_le : (n : ℕ) → years_length 0 ≤ n
years_zero_le n = rw years_zero (omega arith)

-- the year y has begun on the day d, and has not ended
pub record InYear (d y : ℕ) : Type 0 where
  pub from : new_year y ≤ d
  pub to : d < new_year y + year_length y

in_year_at : (d y k : ℕ) → y % 400 ≡ k → y / 400 ≡ d / cycle → years_length k ≤ d % cycle → d % cycle < years_length (suc k) → InYear d y
unfolding new_year
in_year_at d y k m q a b =
    let l : years_length (suc k) ≡ years_length k + year_length y = years_next k ∙ ap (λ (j : ℕ). years_length k + year_length j) (sym m) ∙ ap (λ (j : ℕ). years_length k + j) (year_length_again y) in
    record { from = rw (m, q) (omega arith); to = rw (m, q) (omega arith) }

-- every date lies in the year that `year_of` gives
pub in_year : (d : ℕ) → InYear d (year_of d)
unfolding year_of
in_year d = by (year_within 400 (d % cycle)) (years_last 400 (d % cycle))
  where
    by : (k : ℕ) → k ≡ last years_length 400 (d % cycle) → InYear d (d / cycle * 400 + k)
    by k e =
        let n = d % cycle in
        let w : k ≤ 399 = rw e (last_within years_length 399 n) in
        let a : years_length k ≤ n = rw e (last_reached years_length 400 n (years_zero_le n)) in
        let b : n < years_length (suc k) = rw e (last_passed years_length 400 n (years_zero_le n) (rw full (omega arith))) in
        let m : (d / cycle * 400 + k) % 400 ≡ k = omega arith in
        let q : (d / cycle * 400 + k) / 400 ≡ d / cycle = omega arith in
        in_year_at d (d / cycle * 400 + k) k m q a b

-- and in no other
pub year_found : (d y : ℕ) → InYear d y → year_of d ≡ y
unfolding year_of new_year
year_found d y h =
    let k = y % 400 in
    let f : new_year y ≤ d = h.from in
    let t : d < new_year y + year_length y = h.to in
    let l : years_length (suc k) ≡ years_length k + year_length y = years_next k ∙ ap (λ (j : ℕ). years_length k + j) (year_length_again y) in
    let top : years_length (suc k) ≤ cycle = omega (arith, rising years_length years_rise (suc k) 400 (omega arith), full) in
    let q : d / cycle ≡ y / 400 = omega arith in
    let a : years_length k ≤ d % cycle = omega arith in
    let b : d % cycle < years_length (suc k) = omega arith in
    rw (q, years_last, last_found years_length years_rise 400 k (d % cycle) (omega arith) a b) (omega arith)

-- ---- months

-- the length of a month, and of the months before it, by whether the year is a leap year
abbrev length_by : Bool → ℕ → ℕ
length_by l m =
    if eqb m 2 then (if l then 29 else 28) else
    if eqb m 4 || (eqb m 6 || (eqb m 9 || eqb m 11)) then 30 else 31

abbrev lengths_by : Bool → ℕ → ℕ
lengths_by l zero = 0
lengths_by l (suc m) = if eqb m 0 then 0 else lengths_by l m + length_by l m

lengths_by_lem : (y m : ℕ) → months_length y m ≡ lengths_by (leap y) m
unfolding months_length month_length
lengths_by_lem y zero = refl
lengths_by_lem y (suc m) = rw (lengths_by_lem y m)

-- the days before a month, in whole numbers: from March on in steps of 153 days in five months
abbrev pub months_formula : Bool → ℕ → ℕ
months_formula l m = if ltb m 3 then 31 * (m - 1) else 59 + bit l + (153 * m - 457) / 5

agrees : Bool → ℕ → Bool
agrees l m = eqb (lengths_by l m) (months_formula l m)

agree : (l : Bool) (m : ℕ) → m < 14 → lengths_by l m ≡ months_formula l m
unfolding agrees
agree true m h = eqb→eq _ _ (at (agrees true) 14 tt m h)
agree false m h = eqb→eq _ _ (at (agrees false) 14 tt m h)

pub months_formula_lem : (y m : ℕ) → m < 14 → months_length y m ≡ months_formula (leap y) m
months_formula_lem y m h = lengths_by_lem y m ∙ agree (leap y) m h

pub months_early : (y m : ℕ) → m < 3 → months_length y m ≡ 31 * (m - 1)
months_early y m h = months_formula_lem y m (omega arith) ∙ simp (lt-ltb m 3 h)

pub months_late : (y m : ℕ) → 3 ≤ m → m < 14 → months_length y m ≡ 59 + leap_day y + (153 * m - 457) / 5
months_late y m a h = months_formula_lem y m h ∙ simp (le-ltb m 3 a)

pub months_next : (y m : ℕ) → 1 ≤ m → months_length y (suc m) ≡ months_length y m + month_length y m
unfolding months_length
months_next y m h = simp (ne_eqb m 0 (λ e. omega arith))

pub months_full : (y : ℕ) → months_length y 13 ≡ year_length y
months_full y = months_late y 13 (omega arith) (omega arith) ∙ omega (arith, year_length_lem y)

-- month j + 1
abbrev months_to : ℕ → ℕ → ℕ
months_to y j = months_length y (suc j)

months_rise : (y j : ℕ) → months_to y j ≤ months_to y (suc j)
months_rise y j = omega (arith, months_next y (suc j) (omega arith))

months_last : (y k n : ℕ) → month_within y k n ≡ suc (last (months_to y) k n)
unfolding month_within last
months_last y zero n = refl
months_last y (suc k) n = by (leb (months_to y k) n) (months_last y k n)
  where
    by : (t : Bool) {a b : ℕ} → a ≡ suc b → (if t then suc k else a) ≡ suc (if t then k else b)
    by true e = refl
    by false e = e

-- the day n of the year y, counted from 0, lies in the month m
pub record InMonth (y n m : ℕ) : Type 0 where
  pub low : 1 ≤ m
  pub high : m ≤ 12
  pub from : months_length y m ≤ n
  pub to : n < months_length y m + month_length y m

pub in_month_lem : (y n : ℕ) → n < year_length y → InMonth y n (month_within y 12 n)
in_month_lem y n h = by (last (months_to y) 12 n) refl
  where
    by : (j : ℕ) → j ≡ last (months_to y) 12 n → InMonth y n (month_within y 12 n)
    by j e =
        let m : month_within y 12 n ≡ suc j = months_last y 12 n ∙ ap suc (sym e) in
        let zero-le : months_to y 0 ≤ n = omega (arith, months_early y 1 (omega arith)) in
        let w : j ≤ 11 = rw e (last_within (months_to y) 11 n) in
        let a : months_to y j ≤ n = rw e (last_reached (months_to y) 12 n zero-le) in
        let b : n < months_to y (suc j) = rw e (last_passed (months_to y) 12 n zero-le (rw months_full h)) in
        rw m (record { low = omega arith; high = omega arith; from = a; to = omega (arith, months_next y (suc j) (omega arith)) })

pub month_found : (y n m : ℕ) → InMonth y n m → month_within y 12 n ≡ m
month_found y n zero h = absurd (omega arith)
month_found y n (suc j) h =
    months_last y 12 n
    ∙ ap suc (last_found (months_to y) (months_rise y) 12 j n (omega arith) h.from (omega (arith, h.to, months_next y (suc j) (omega arith))))

-- ---- a date's year, month and day, and back

-- a date comes back from its year, month and day
pub date_back : (d : ℕ) → date_at (year_of d) (month_of d) (day_of d) ≡ d
unfolding date_at month_of day_of
date_back d =
    let y = year_of d in
    let i : InYear d y = in_year d in
    let m : InMonth y (d - new_year y) (month_within y 12 (d - new_year y)) = in_month_lem y (d - new_year y) (omega arith) in
    omega (arith, i.from, m.from)

-- and these are a month and a day of the calendar
pub record IsDay (y m d : ℕ) : Type 0 where
  pub low : 1 ≤ m
  pub high : m ≤ 12
  pub first : 1 ≤ d
  pub last : d ≤ month_length y m

pub is_day_lem : (d : ℕ) → IsDay (year_of d) (month_of d) (day_of d)
unfolding month_of day_of
is_day_lem d =
    let y = year_of d in
    let i : InYear d y = in_year d in
    let m : InMonth y (d - new_year y) (month_within y 12 (d - new_year y)) = in_month_lem y (d - new_year y) (omega arith) in
    record { low = m.low; high = m.high; first = omega arith; last = omega (arith, m.from, m.to) }

-- a year, a month and a day come back from their date
pub record Falls (d y m k : ℕ) : Type 0 where
  pub year : year_of d ≡ y
  pub month : month_of d ≡ m
  pub day : day_of d ≡ k

pub falls : (d y m k : ℕ) → IsDay y m k → d ≡ date_at y m k → Falls d y m k
unfolding date_at month_of day_of
falls d y m k h e =
    let p = h.first in
    let q = h.last in
    let n = months_length y m + (k - 1) in
    let s : months_length y (suc m) ≡ months_length y m + month_length y m = months_next y m h.low in
    let t : months_length y (suc m) ≤ year_length y = omega (arith, rising (months_to y) (months_rise y) m 12 h.high, months_full y) in
    let i : InMonth y n m = record { low = h.low; high = h.high; from = omega arith; to = omega arith } in
    let f : year_of d ≡ y = year_found d y (record { from = omega arith; to = omega arith }) in
    let o : d - new_year y ≡ n = omega arith in
    let g : month_within y 12 (d - new_year y) ≡ m = rw o (month_found y n m i) in
    record { year = f; month = rw f g; day = rw (f, g) (omega arith) }

-- ---- years that begin in March

-- d is the nth day, counted from 0, of the year that begins in March before the year y, and which has as many days as the year y
pub record MarchDay (d y n : ℕ) : Type 0 where
  pub start : d + 306 ≡ new_year y + n
  pub short : n < year_length y

-- ---- document 01's dates

pub first_new_year : new_year 1 ≡ first_date
unfolding new_year years_length year_length leap
first_new_year = refl

pub last_new_year : new_year 20000 ≡ last_date + 1
unfolding new_year years_length year_length leap
last_new_year = refl
