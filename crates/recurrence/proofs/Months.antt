-- Years and months in their order, and the candidate of a month: a day of it, or the item at a position. Assumes nothing.
use Rattle.std.specs.Prelude.{if◌then◌else◌}
use Prim.Native.Nat.{ℕ, zero, suc, ◌+◌, ◌-◌, ◌≤◌, ◌<◌}
use native.Mathlib.Omega.{arith}
use native.Mathlib.Decide.{dec_lt}
use native.Mathlib.Numerals.{add-one}
use mathlib.Core.Path.{◌≡◌, refl, sym, ap, ◌∙◌}
use mathlib.Core.Bool.{Bool, true, false, ◌&&◌, ◌||◌}
use mathlib.Core.List.{List, [], ◌∷◌}
use Rattle.std.specs.Prelude.{Option, Some, None}
use Rattle.std.specs.Prelude.{slice_get}
use lib.Dec.{ltb, eqb}
use lib.IntN.{ℤ, pos, negsuc}
use borrow.Author.Tests.{eqb-true, eqb-false, eq-eqb, ne_eqb, le-leb}
use Rattle.definition.specs.Base.{◌or_else◌, within, keep, count, find_last}
use Rattle.definition.specs.Date.{Date, sunday_first, leap, year_of, month_of, day_of, date_at, month_length, months_length, new_year, year_length, last_date}
use Rattle.definition.specs.Recurrence.{item_fits, at_position, nth_in_month, is_date}
use Rattle.laws.specs.Rows.{lower, rising}
use Rattle.laws.specs.Calendar.{new_year_next, months_full, last_new_year, InYear, in_year, months_next, InMonth, in_month_lem, IsDay, is_day_lem, date_back, Falls, falls}
use Rattle.recurrence.specs.Kind.{last_of, candidate}
use Rattle.recurrence.specs.Scale.{IsMonth, month_at, day_in}
use Rattle.recurrence.proofs.Runs.{keep_yes, keep_no, keep_none}
use Rattle.laws.specs.Bools.{within_is}
use Rattle.laws.specs.Options.{when_is}

pub sunday_less : (d : Date) → sunday_first d < 7
unfolding sunday_first
sunday_less d = omega arith

-- ---- later dates lie in later years and months

pub new_year_rises : (y : ℕ) → new_year y ≤ new_year (suc y)
new_year_rises y = omega (arith, new_year_next y, ap new_year (add-one y))

pub year_rises : (d e : ℕ) → d ≤ e → year_of d ≤ year_of e
year_rises d e h =
    let i : InYear d (year_of d) = in_year d in
    let j : InYear e (year_of e) = in_year e in
    let n : new_year (suc (year_of e)) ≡ new_year (year_of e) + year_length (year_of e) = ap new_year (sym (add-one (year_of e))) ∙ new_year_next (year_of e) in
    let l : year_of d < suc (year_of e) = lower new_year new_year_rises (year_of d) (suc (year_of e)) (omega (arith, i.from, j.to)) in
    omega arith

pub months_rise : (y j : ℕ) → months_length y (suc j) ≤ months_length y (suc (suc j))
months_rise y j = omega (arith, months_next y (suc j) (omega arith))

month_lower : (y a b m n : ℕ) → a ≤ b → InMonth y a m → InMonth y b n → m ≤ n
month_lower y a b zero n h i j = omega arith
month_lower y a b (suc m) zero h i j = absurd (omega (arith, j.low))
month_lower y a b (suc m) (suc n) h i j =
    let s = months_next y (suc n) (omega arith) in
    let l : m < suc n = lower (λ (k : ℕ). months_length y (suc k)) (months_rise y) m (suc n) (omega (arith, i.from, j.to)) in
    omega arith

pub month_length_lem : (y m : ℕ) → month_length y m ≤ 31
unfolding month_length
month_length_lem y m = by (eqb m 2) (leap y) (eqb m 4 || (eqb m 6 || (eqb m 9 || eqb m 11)))
  where
    by : (a b c : Bool) → (if a then (if b then 29 else 28) else if c then 30 else 31) ≤ 31
    by true true c = omega arith
    by true false c = omega arith
    by false b true = omega arith
    by false b false = omega arith

months_end : (y m : ℕ) → IsMonth m → months_length y m + month_length y m ≤ year_length y
months_end y zero h = absurd (omega arith)
months_end y (suc m) h =
    omega (arith, months_next y (suc m) (omega arith), rising (λ (k : ℕ). months_length y (suc k)) (months_rise y) (suc m) 12 (omega arith), months_full y)

pub month_end : (y m : ℕ) → y ≤ 19999 → IsMonth m → date_at y m 1 + month_length y m ≤ last_date + 1
unfolding date_at
month_end y m h i =
    let n : new_year (suc y) ≡ new_year y + year_length y = ap new_year (sym (add-one y)) ∙ new_year_next y in
    omega (arith, months_end y m i, rising new_year new_year_rises (suc y) 20000 (omega arith), last_new_year)

month_of_lem : (d : ℕ) → InMonth (year_of d) (d - new_year (year_of d)) (month_of d)
unfolding month_of
month_of_lem d =
    let i : InYear d (year_of d) = in_year d in
    in_month_lem (year_of d) (d - new_year (year_of d)) (omega (arith, i.from, i.to))

pub month_rises : (d e : ℕ) → d ≤ e → month_at d ≤ month_at e
month_rises d e h = by (dec_lt (year_of d) (year_of e)) (month_of_lem d) (month_of_lem e)
  where
    by : Dec (year_of d < year_of e) → InMonth (year_of d) (d - new_year (year_of d)) (month_of d) → InMonth (year_of e) (e - new_year (year_of e)) (month_of e) → month_at d ≤ month_at e
    by (yes l) i j = omega (arith, i.high, j.low)
    by (no g) i j =
        let y : year_of e ≡ year_of d = omega (arith, year_rises d e h) in
        let j' : InMonth (year_of d) (e - new_year (year_of d)) (month_of e) = rw y at j in
        omega (arith, month_lower (year_of d) _ _ (month_of d) (month_of e) (omega arith) i j')

-- ---- what stands in a run lies in it

module _ (p : ℕ → Bool) where
  pub nth_in : (a n k x : ℕ) → slice_get (keep p (count a n)) k ≡ Some x → (a ≤ x) × (x < a + n)
  nth_in a zero k x e = let z : ◌≡◌ {A = ℕ} 0 1 = cc (ap (λ (l : List ℕ). slice_get l k) (keep_none p a)) in absurd (omega arith)
  nth_in a (suc n) k x e = by (p a) refl k e (nth_in (suc a) n)
    where
      by : (t : Bool) → p a ≡ t → (k : ℕ) → slice_get (keep p (count a (suc n))) k ≡ Some x → ((k y : ℕ) → slice_get (keep p (count (suc a) n)) k ≡ Some y → (suc a ≤ y) × (y < suc a + n)) → (a ≤ x) × (x < a + suc n)
      by true t zero e more = let q : a ≡ x = cc (ap (λ (l : List ℕ). slice_get l 0) (keep_yes p a n t)) in omega arith
      by true t (suc k) e more = let m = more k x (sym (ap (λ (l : List ℕ). slice_get l (suc k)) (keep_yes p a n t)) ∙ e) in omega arith
      by false t k e more = let m = more k x (sym (ap (λ (l : List ℕ). slice_get l k) (keep_no p a n t)) ∙ e) in omega arith

pub last_cons : (a : ℕ) (l : List ℕ) → last_of (a ∷ l) ≡ (last_of l or_else Some a)
unfolding find_last
last_cons a l = refl

pub last_none : last_of [] ≡ None
unfolding find_last
last_none = refl

module _ (p : ℕ → Bool) where
  pub last_in : (a n x : ℕ) → last_of (keep p (count a n)) ≡ Some x → (a ≤ x) × (x < a + n)
  last_in a zero x e = let z : ◌≡◌ {A = ℕ} 0 1 = cc (ap last_of (keep_none p a), last_none) in absurd (omega arith)
  last_in a (suc n) x e = by (p a) refl (last_in (suc a) n)
    where
      rest : Option ℕ
      rest = last_of (keep p (count (suc a) n))

      or_here : (o : Option ℕ) → last_of (keep p (count (suc a) n)) ≡ o → (o or_else Some a) ≡ Some x → ((y : ℕ) → last_of (keep p (count (suc a) n)) ≡ Some y → (suc a ≤ y) × (y < suc a + n)) → (a ≤ x) × (x < a + suc n)
      or_here None o q more = let z : a ≡ x = cc in omega arith
      or_here (Some y) o q more = let m = more x (o ∙ q) in omega arith

      by : (t : Bool) → p a ≡ t → ((y : ℕ) → last_of (keep p (count (suc a) n)) ≡ Some y → (suc a ≤ y) × (y < suc a + n)) → (a ≤ x) × (x < a + suc n)
      by true t more = or_here (last_of (keep p (count (suc a) n))) refl (sym (last_cons a _) ∙ sym (ap last_of (keep_yes p a n t)) ∙ e) more
      by false t more = let m = more x (sym (ap last_of (keep_no p a n t)) ∙ e) in omega arith

-- ---- the candidates of a month

-- a date in a month of a year
pub record Lies (x y m : ℕ) : Type 0 where
  pub year : year_of x ≡ y
  pub month : month_of x ≡ m

falls_lies : (x y m k : ℕ) → Falls x y m k → Lies x y m
falls_lies x y m k f = record { year = f.year; month = f.month }

in_run_lies : (x y m : ℕ) → IsMonth m → (date_at y m 1 ≤ x) × (x < date_at y m 1 + month_length y m) → Lies x y m
unfolding date_at
in_run_lies x y m h r =
    let k = x - (new_year y + months_length y m) + 1 in
    falls_lies x y m k (falls x y m k (record { low = h.0; high = h.1; first = omega arith; last = omega (arith, r.0, r.1) }) (omega (arith, r.0)))

day_lies : (x y m k : ℕ) → IsMonth m → day_in y m k ≡ Some x → Falls x y m k
unfolding day_in
day_lies x y m k h e =
    let w = when_is (within 1 (month_length y m) k) (date_at y m k) x e in
    let i = within_is 1 (month_length y m) k w.0 in
    falls x y m k (record { low = h.0; high = h.1; first = i.0; last = i.1 }) (sym w.1)

position_lies : (x y m item : ℕ) (position : ℤ) → IsMonth m → at_position position (keep (item_fits (pos item)) (count (date_at y m 1) (month_length y m))) ≡ Some x → Lies x y m
position_lies x y m item (negsuc n) h e = let z : ◌≡◌ {A = ℕ} 0 1 = cc in absurd (omega arith)
position_lies x y m item (pos n) h e = by (eqb n 4) (ltb n 4) e
  where
    by : (s t : Bool) → (if s then last_of (keep (item_fits (pos item)) (count (date_at y m 1) (month_length y m))) else if t then slice_get (keep (item_fits (pos item)) (count (date_at y m 1) (month_length y m))) n else None) ≡ Some x → Lies x y m
    by true t e = in_run_lies x y m h (last_in (item_fits (pos item)) (date_at y m 1) (month_length y m) x e)
    by false true e = in_run_lies x y m h (nth_in (item_fits (pos item)) (date_at y m 1) (month_length y m) n x e)
    by false false e = let z : ◌≡◌ {A = ℕ} 0 1 = cc in absurd (omega arith)

nth_lies : (x y m item position : ℕ) → IsMonth m → nth_in_month y m (pos item) (pos position) ≡ Some x → Lies x y m
unfolding nth_in_month
nth_lies x y m item position h e = by (eqb y 19999 && eqb m 12) e
  where
    by : (t : Bool) → (if t then None else at_position (pos position) (keep (item_fits (pos item)) (count (date_at y m 1) (month_length y m)))) ≡ Some x → Lies x y m
    by true e = let z : ◌≡◌ {A = ℕ} 0 1 = cc in absurd (omega arith)
    by false e = position_lies x y m item (pos position) h e

day_there : (d : Date) → day_in (year_of d) (month_of d) (day_of d) ≡ Some d
unfolding day_in
day_there d =
    let i : IsDay (year_of d) (month_of d) (day_of d) = is_day_lem d in
    rw (le-leb 1 (day_of d) i.first, le-leb (day_of d) (month_length (year_of d) (month_of d)) i.last) (ap Some (date_back d))

module _ (day item position : ℕ) where
  pub candidate_lies : (b : Bool) (x y m : ℕ) → IsMonth m → candidate b day item position y m ≡ Some x → Lies x y m
  unfolding candidate
  candidate_lies true x y m h e = nth_lies x y m item position h e
  candidate_lies false x y m h e = falls_lies x y m day (day_lies x y m day h e)

  -- the day of the month, or the item at the position in it
  unfoldable pub on : Bool → Date → Bool
  on true d = is_date (nth_in_month (year_of d) (month_of d) (pos item) (pos position)) d
  on false d = eqb day (day_of d)

  day_is : (d : Date) → is_date (day_in (year_of d) (month_of d) day) d ≡ eqb day (day_of d)
  day_is d = by (eqb day (day_of d)) refl (day_in (year_of d) (month_of d) day) refl
    where
      i : IsDay (year_of d) (month_of d) (day_of d)
      i = is_day_lem d

      by : (t : Bool) → eqb day (day_of d) ≡ t → (o : Option Date) → day_in (year_of d) (month_of d) day ≡ o → is_date o d ≡ t
      by true t o e =
          let q : o ≡ Some d = sym e ∙ ap (day_in (year_of d) (month_of d)) (eqb-true day (day_of d) t) ∙ day_there d in
          rw q (eq-eqb d d refl)
      by false t None e = refl
      by false t (Some x) e = ne_eqb x d (λ q. eqb-false day (day_of d) t (sym (day_lies d (year_of d) (month_of d) day (i.low, i.high) (e ∙ ap Some q)).day))

  here : (b : Bool) (d : Date) → is_date (candidate b day item position (year_of d) (month_of d)) d ≡ on b d
  unfolding candidate on
  here true d = refl
  here false d = day_is d

  -- a date is the candidate of its month, and of no other
  pub candidate_is : (b : Bool) (m : ℕ) (d : Date) → IsMonth m → is_date (candidate b day item position (year_of d) m) d ≡ (eqb m (month_of d) && on b d)
  candidate_is b m d h = by (eqb m (month_of d)) refl (candidate b day item position (year_of d) m) refl
    where
      by : (t : Bool) → eqb m (month_of d) ≡ t → (o : Option Date) → candidate b day item position (year_of d) m ≡ o → is_date o d ≡ (t && on b d)
      by true t o e =
          let q : m ≡ month_of d = eqb-true m (month_of d) t in
          rw (← e, q) (here b d)
      by false t None e = refl
      by false t (Some x) e = ne_eqb x d (λ q. eqb-false m (month_of d) t (sym (candidate_lies b d (year_of d) m h (e ∙ ap Some q)).month))
