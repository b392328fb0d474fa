-- The code's whole-number steps give the calendar's dates. Assumes nothing.
use Rattle.std.specs.Prelude.{if◌then◌else◌}
use Prim.Native.Nat.{ℕ, zero, suc, ◌+◌, ◌-◌, ◌*◌, ◌/◌, ◌%◌, ◌≤◌, ◌<◌}
use native.Mathlib.Omega.{arith}
use native.Mathlib.Decide.{dec_lt}
use native.Mathlib.Numerals.{add-one}
use mathlib.Core.Path.{◌≡◌, refl, sym, ap, ◌∙◌}
use mathlib.Core.Bool.{Bool, true, false, ◌&&◌, ◌||◌}
use mathlib.Core.Logic.{◌⊎◌, inl, inr, ⊎_elim}
use lib.Dec.{leb, eqb}
use borrow.Author.Tests.{ne_eqb, leb-true}
use Rattle.definition.specs.Date.{leap, year_length, month_length, months_length, new_year, date_at, year_of}
use Rattle.definition.specs.Format.{bit}
use Rattle.laws.specs.Calendar.{leap_day, year_length_lem, new_year_next, new_year_lem, months_early, months_late, months_next, IsDay, Falls, falls, MarchDay, in_year}
use Rattle.date.specs.Answer.{is_day}

-- ---- 1 January

pub new_year_most : (y : ℕ) → new_year y ≤ 366 * y + 2
new_year_most y =
    let e = new_year_lem y in
    let a : (y + 3) / 4 + (y + 399) / 400 ≤ y + 2 = omega arith in
    omega (arith, sum (new_year y) ((y + 99) / 100) ((y + 3) / 4) ((y + 399) / 400) e a)
  where
    sum : (n h a b : ℕ) → n + h ≡ 365 * y + a + b → a + b ≤ y + 2 → n ≤ 366 * y + 2
    sum n h a b e l = omega arith

pub less : (n a b : ℕ) → n + b ≡ a → a - b ≡ n
less n a b e = omega arith

-- ---- a day of a month

pub day_early : (y m d : ℕ) → m < 3 → new_year y + 31 * (m - 1) + (d - 1) ≡ date_at y m d
unfolding date_at
day_early y m d h = rw (months_early y m h)

pub day_late : (y m d : ℕ) → 3 ≤ m → m ≤ 12 → new_year (y + 1) - 306 + (153 * m - 457) / 5 + (d - 1) ≡ date_at y m d
unfolding date_at
day_late y m d a b =
    rw (months_late y m a (omega arith), new_year_next, year_length_lem) (sum (new_year y) (leap_day y) ((153 * m - 457) / 5) (d - 1))
  where
    sum : (n l s k : ℕ) → n + (365 + l) - 306 + s + k ≡ n + (59 + l + s) + k
    sum n l s k = omega arith

-- ---- years that begin in March, 400 of them from March of the year -10400 on

march_start : (c z : ℕ) → z < 100 → 399 ≤ c * 100 + z → new_year (c * 100 + z - 399) + 145731 ≡ 36524 * c + c / 4 + (365 * z + z / 4)
march_start c z h l =
    let y = c * 100 + z - 399 in
    let a : (y + 3) / 4 + 99 ≡ 25 * c + z / 4 = omega arith in
    let b : (y + 99) / 100 + 3 ≡ c = omega arith in
    let e : (y + 399) / 400 ≡ c / 4 = omega arith in
    let s : y + 399 ≡ c * 100 + z = omega arith in
    sum (new_year y) y ((y + 3) / 4) ((y + 99) / 100) ((y + 399) / 400) (c / 4) (z / 4) (new_year_lem y) a b e s
  where
    sum : (n y a b e f g : ℕ) → n + b ≡ 365 * y + a + e → a + 99 ≡ 25 * c + g → b + 3 ≡ c → e ≡ f → y + 399 ≡ c * 100 + z → n + 145731 ≡ 36524 * c + f + (365 * z + g)
    sum n y a b e f g p q r s t = omega arith

-- the number n of a day, from that March on, by its century and the day r / 4 of that
century : (n c r : ℕ) → 4 * n + 3 ≡ c * 146097 + r → r < 146097 → n ≡ 36524 * c + c / 4 + r / 4
century n c r e h = omega arith

year : (n z s : ℕ) → 4 * n + 3 ≡ z * 1461 + s → s < 1461 → n ≡ 365 * z + z / 4 + s / 4
year n z s e h = omega arith

next_march : (c z n : ℕ) → z < 100 → 399 ≤ c * 100 + z → n < 36524 * suc c + suc c / 4 → n < 36524 * c + c / 4 + (365 * suc z + suc z / 4)
    → n < new_year (c * 100 + z - 399 + 1) + 145731
next_march c z n h l a b = by (dec_lt z 99)
  where
    by : Dec (z < 99) → n < new_year (c * 100 + z - 399 + 1) + 145731
    by (yes k) =
        let e : c * 100 + z - 399 + 1 ≡ c * 100 + suc z - 399 = omega arith in
        rw (e, march_start c (suc z) (omega arith) (omega arith)) b
    by (no g) =
        let e : c * 100 + z - 399 + 1 ≡ suc c * 100 + 0 - 399 = omega arith in
        rw (e, march_start (suc c) 0 (omega arith) (omega arith)) (omega arith)

march_day : (d c r z s : ℕ) → 4 * (d + 146037) + 3 ≡ c * 146097 + r → r < 146097 → 4 * (r / 4) + 3 ≡ z * 1461 + s → s < 1461
    → MarchDay d (c * 100 + z - 399) (s / 4)
march_day d c r z s e h f g =
    let p : d + 146037 ≡ 36524 * c + c / 4 + r / 4 = century (d + 146037) c r e h in
    let q : r / 4 ≡ 365 * z + z / 4 + s / 4 = year (r / 4) z s f g in
    let w : z < 100 = omega arith in
    let l : 399 ≤ c * 100 + z = omega arith in
    let m = march_start c z w l in
    let a : d + 146037 < 36524 * suc c + suc c / 4 = omega (arith, e, h) in
    let b : d + 146037 < 36524 * c + c / 4 + (365 * suc z + suc z / 4) = sum (later (r / 4) z s f g) p in
    let t = next_march c z (d + 146037) w l a b in
    let st : d + 306 ≡ new_year (c * 100 + z - 399) + s / 4 = start (new_year (c * 100 + z - 399)) (36524 * c + c / 4) (365 * z + z / 4) (s / 4) (r / 4) m p q in
    record { start = st; short = short (new_year (c * 100 + z - 399)) (s / 4) (rw new_year_next at t) st }
  where
    later : (n z s : ℕ) → 4 * n + 3 ≡ z * 1461 + s → s < 1461 → n < 365 * suc z + suc z / 4
    later n z s e h = omega arith

    sum : {k : ℕ} → r / 4 < k → d + 146037 ≡ 36524 * c + c / 4 + r / 4 → d + 146037 < 36524 * c + c / 4 + k
    sum l e = omega arith

    start : (n a b k j : ℕ) → n + 145731 ≡ a + b → d + 146037 ≡ a + j → j ≡ b + k → d + 306 ≡ n + k
    start n a b k j e f g = omega arith

    short : (n k : ℕ) {l : ℕ} → d + 146037 < n + l + 145731 → d + 306 ≡ n + k → k < l
    short n k a b = omega arith

pub march_found : (d n k : ℕ) → n ≡ (d + 146037) * 4 + 3 → k ≡ n % 146097 / 4 * 4 + 3 → MarchDay d (n / 146097 * 100 + k / 1461 - 399) (k % 1461 / 4)
march_found d n k e f =
    march_day d (n / 146097) (n % 146097) (k / 1461) (k % 1461) (omega arith) (omega arith) (omega arith) (omega arith)

-- ---- the month and the day

-- from March on
late : (n m : ℕ) → n < 306 → m ≡ (n * 5 + 461) / 153 → (153 * m - 457) / 5 + (n * 5 + 461) % 153 / 5 ≡ n
late n m h e = omega arith

late_next : (n m : ℕ) → n < 306 → m ≡ (n * 5 + 461) / 153 → n < (153 * suc m - 457) / 5
late_next n m h e = omega arith

pub civil_late : (d y n : ℕ) → MarchDay d y n → n < 306 → Falls d (y - 1) ((n * 5 + 461) / 153) ((n * 5 + 461) % 153 / 5 + 1)
unfolding date_at
civil_late d zero n h l = absurd (omega (arith, h.start, new_year_lem 0))
civil_late d (suc y) n h l =
    let m = (n * 5 + 461) / 153 in
    let k = (n * 5 + 461) % 153 / 5 in
    let a : 3 ≤ m = omega arith in
    let b : m ≤ 12 = omega arith in
    let e : new_year (suc y) ≡ new_year y + (365 + leap_day y) = ap new_year (sym (add-one y)) ∙ new_year_next y ∙ ap (λ (j : ℕ). new_year y + j) (year_length_lem y) in
    let g : months_length y m ≡ 59 + leap_day y + (153 * m - 457) / 5 = months_late y m a (omega arith) in
    let o : months_length y (suc m) ≡ 59 + leap_day y + (153 * suc m - 457) / 5 = months_late y (suc m) (omega arith) (omega arith) in
    let t = late n m l refl in
    let u = late_next n m l refl in
    let date : d ≡ new_year y + months_length y m + (k + 1 - 1) = day (new_year (suc y)) (new_year y) (leap_day y) (months_length y m) ((153 * m - 457) / 5) k h.start e g t in
    rw (less y (suc y) 1 (add-one y)) (falls d y m (k + 1) (record { low = omega arith; high = b; first = omega arith; last = last (leap_day y) ((153 * m - 457) / 5) ((153 * suc m - 457) / 5) k g (o) (months_next y m (omega arith)) t u }) date)
  where
    day : (n' y' l g t k : ℕ) → d + 306 ≡ n' + n → n' ≡ y' + (365 + l) → g ≡ 59 + l + t → t + k ≡ n → d ≡ y' + g + (k + 1 - 1)
    day n' y' l g t k a b c e = omega arith

    last : {g o x : ℕ} (l t u k : ℕ) → g ≡ 59 + l + t → o ≡ 59 + l + u → o ≡ g + x → t + k ≡ n → n < u → k + 1 ≤ x
    last l t u k a b c e f = omega arith

pub leap_day_le : (y : ℕ) → leap_day y ≤ 1
leap_day_le y = by (leap y)
  where
    by : (t : Bool) → bit t ≤ 1
    by true = omega arith
    by false = omega arith

january : (y : ℕ) → month_length y 1 ≡ 31
january y = omega (arith, months_next y 1 (omega arith), months_early y 1 (omega arith), months_early y 2 (omega arith))

february : (y : ℕ) → month_length y 2 ≡ 28 + leap_day y
february y = omega (arith, months_next y 2 (omega arith), months_early y 2 (omega arith), months_late y 3 (omega arith) (omega arith))

early : (n m : ℕ) → 306 ≤ n → n ≤ 365 → m ≡ (n * 5 + 461) / 153 - 12 → 31 * (m - 1) + (n * 5 + 461) % 153 / 5 + 306 ≡ n
early n m l h e = omega arith

pub civil_early : (d y n : ℕ) → MarchDay d y n → 306 ≤ n → Falls d y ((n * 5 + 461) / 153 - 12) ((n * 5 + 461) % 153 / 5 + 1)
unfolding date_at
civil_early d y n h l =
    let m = (n * 5 + 461) / 153 - 12 in
    let k = (n * 5 + 461) % 153 / 5 in
    let s : n < 365 + leap_day y = rw (year_length_lem y) at h.short in
    let o : n ≤ 365 = omega (arith, leap_day_le y) in
    let a : 1 ≤ m = omega arith in
    let b : m < 3 = omega arith in
    let g : months_length y m ≡ 31 * (m - 1) = months_early y m b in
    let t : 31 * (m - 1) + k + 306 ≡ n = early n m l o refl in
    let date : d ≡ new_year y + months_length y m + (k + 1 - 1) = day (new_year y) (months_length y m) (31 * (m - 1)) k h.start g t in
    falls d y m (k + 1) (record { low = a; high = omega arith; first = omega arith; last = last m k a b (omega arith) s t (dec_lt m 2) }) date
  where
    day : (y' g t k : ℕ) → d + 306 ≡ y' + n → g ≡ t → t + k + 306 ≡ n → d ≡ y' + g + (k + 1 - 1)
    day y' g t k a b c = omega arith

    last : (m k : ℕ) → 1 ≤ m → m < 3 → k ≤ 30 → n < 365 + leap_day y → 31 * (m - 1) + k + 306 ≡ n → Dec (m < 2) → k + 1 ≤ month_length y m
    last m k a b p s t (yes c) = let e : m ≡ 1 = omega arith in rw (e, january y) (omega arith)
    last m k a b p s t (no c) = let e : m ≡ 2 = omega arith in rw (e, february y) (omega arith)

pub march_year : (d y n : ℕ) → MarchDay d y n → n < 306 → 1 ≤ y
march_year d zero n h l = absurd (omega (arith, h.start, new_year_lem 0))
march_year d (suc y) n h l = omega arith

-- ---- months of 30 days and of 31

pub thirty : (y m : ℕ) → (m ≡ 4) ⊎ ((m ≡ 6) ⊎ ((m ≡ 9) ⊎ (m ≡ 11))) → 30 ≡ month_length y m
unfolding month_length
thirty y m = ⊎_elim (λ e. rw e) (⊎_elim (λ e. rw e) (⊎_elim (λ e. rw e) (λ e. rw e)))

pub thirty_one : (y m : ℕ) → (m ≡ 2 → ⊥) → ((m ≡ 4) ⊎ ((m ≡ 6) ⊎ ((m ≡ 9) ⊎ (m ≡ 11))) → ⊥) → 31 ≡ month_length y m
unfolding month_length
thirty_one y m a b =
    simp (ne_eqb m 2 a, ne_eqb m 4 (λ e. b (inl e)), ne_eqb m 6 (λ e. b (inr (inl e))), ne_eqb m 9 (λ e. b (inr (inr (inl e)))), ne_eqb m 11 (λ e. b (inr (inr (inr e)))))

-- ---- bounds, and the test of a day

pub year_most : (d : ℕ) → 365 * year_of d ≤ d
year_most d =
    let y = year_of d in
    let a : (y + 99) / 100 ≤ (y + 3) / 4 = omega arith in
    sum (new_year y) y ((y + 99) / 100) ((y + 3) / 4) ((y + 399) / 400) (new_year_lem y) a (in_year d).from
  where
    sum : (n y h a b : ℕ) → n + h ≡ 365 * y + a + b → h ≤ a → n ≤ d → 365 * y ≤ d
    sum n y h a b e l g = omega arith

pub date_most : (y m d : ℕ) → IsDay y m d → date_at y m d ≤ 366 * y + 367
date_most y m d h =
    let f = falls (date_at y m d) y m d h refl in
    let i : date_at y m d < new_year y + year_length y = rw f.year at (in_year (date_at y m d)).to in
    omega (arith, new_year_most y, year_length_lem y, leap_day_le y)

pub tested : (y m d : ℕ) → is_day y m d ≡ true → IsDay y m d
unfolding is_day
tested y m d = by (leb 1 m) (leb m 12) (leb 1 d) (leb d (month_length y m)) refl refl refl refl
  where
    by : (a b p q : Bool) → leb 1 m ≡ a → leb m 12 ≡ b → leb 1 d ≡ p → leb d (month_length y m) ≡ q → ((a && b) && (p && q)) ≡ true → IsDay y m d
    by true true true true e f g h t = record { low = leb-true _ _ e; high = leb-true _ _ f; first = leb-true _ _ g; last = leb-true _ _ h }
    by true true true false e f g h t = let z : ◌≡◌ {A = ℕ} 0 1 = cc in absurd (omega arith)
    by true true false q e f g h t = let z : ◌≡◌ {A = ℕ} 0 1 = cc in absurd (omega arith)
    by true false p q e f g h t = let z : ◌≡◌ {A = ℕ} 0 1 = cc in absurd (omega arith)
    by false b p q e f g h t = let z : ◌≡◌ {A = ℕ} 0 1 = cc in absurd (omega arith)

pub month_most : (y m : ℕ) → month_length y m ≤ 31
unfolding month_length
month_most y m = by (eqb m 2) (leap y) (eqb m 4 || (eqb m 6 || (eqb m 9 || eqb m 11)))
  where
    by : (a l t : Bool) → (if a then (if l then 29 else 28) else if t then 30 else 31) ≤ 31
    by true true t = omega arith
    by true false t = omega arith
    by false l true = omega arith
    by false l false = omega arith
