-- What fits, type by type, and the first day that does. Assumes nothing.
use Prim.Native.Nat.{ℕ, suc, ◌+◌, ◌-◌, ◌*◌, ◌/◌, ◌%◌, ◌≤◌, ◌<◌, max, min}
use native.Mathlib.Omega.{arith}
use native.Mathlib.Decide.{dec_lt}
use native.Mathlib.Nat.{mul-le-mul_right, mul-mod_left}
use mathlib.Core.Path.{◌≡◌, refl}
use mathlib.Core.Bool.{Bool, true, false, ◌&&◌, and-false}
use Rattle.std.specs.Prelude.{Option, Some}
use lib.Dec.{eqb}
use borrow.Author.Tests.{eq-eqb, ne_eqb, le-leb, lt-leb}
use Rattle.definition.specs.Bits.{twos}
use Rattle.definition.specs.Date.{Date, year_of, month_of, day_of, sunday_first}
use Rattle.definition.specs.Recurrence.{most_days, century, every_nth, on_weekday, month_count, fits}
use Rattle.laws.specs.Calendar.{IsDay, is_day_lem}
use Rattle.recurrence.specs.Kind.{UpTo, daily_fits, candidate_of, counts_year, yearly_fits, counts_month, candidate_at, monthly_fits, on_mask, weekly_fits, WeekDay}
use Rattle.recurrence.specs.Meaning.{as_rule, valid_month}
use Rattle.recurrence.specs.Scale.{month_at, IsMonth}
use Rattle.recurrence.specs.Sequence.{FirstFit}
use Rattle.recurrence.proofs.Every.{on_step, off_step, past_steps, one_up}
use Rattle.recurrence.proofs.Months.{on, year_rises, month_rises, Lies, candidate_lies, candidate_is}
use Rattle.recurrence.proofs.Units.{Units, Passed, pass_none, pass_over, fit_unit, no_unit}
use Rattle.recurrence.proofs.Types.{valid_is}
use Rattle.recurrence.specs.declared.scale.Scaled.{Scaled}

-- ---- they are the definition's

turn : (a l x : Bool) → ((a && l) && x) ≡ (l && (a && x))
turn true l x = refl
turn false true x = refl
turn false false x = refl

module _ (r : Scaled) (d : Date) where
  on_it : Bool → Bool
  on_it b = on r.rule.day r.rule.item r.rule.position b d

  yearly_is : (b : Bool) (m : ℕ) → IsMonth m → ((eqb m (month_of d) && counts_year r (year_of d)) && on_it b) ≡ yearly_fits b r m d
  unfolding on_it
  yearly_is b m h =
      rw (candidate_is r.rule.day r.rule.item r.rule.position b m d h)
      (turn (eqb m (month_of d)) (counts_year r (year_of d)) (on r.rule.day r.rule.item r.rule.position b d))

  monthly_is : (b : Bool) → (every_nth r.rule.period 2400 (month_count d - month_count r.from) && on_it b) ≡ monthly_fits b r d
  unfolding on_it
  monthly_is b =
      let i : IsDay (year_of d) (month_of d) (day_of d) = is_day_lem d in
      let j : IsDay (year_of r.from) (month_of r.from) (day_of r.from) = is_day_lem r.from in
      let y : month_at d / 12 ≡ year_of d = omega (arith, i.low, i.high) in
      let m : month_at d % 12 + 1 ≡ month_of d = omega (arith, i.low, i.high) in
      let c : month_count d - month_count r.from ≡ month_at d - month_at r.from = omega (arith, i.low, j.low) in
      rw (y, m, c, candidate_is r.rule.day r.rule.item r.rule.position b (month_of d) d (i.low, i.high), eq-eqb (month_of d) (month_of d) refl)

  pub fits_1 : r.rule.kind ≡ 1 → fits (as_rule r) d ≡ daily_fits r d
  unfolding fits
  fits_1 e = rw e

  module _ (m : ℕ) (v : valid_month r.rule.month ≡ Some m) where
    pub fits_2 : r.rule.kind ≡ 2 → fits (as_rule r) d ≡ yearly_fits false r m d
    unfolding fits on on_it
    fits_2 e = rw (e, v) (yearly_is false m (valid_is r.rule.month m v))

    pub fits_3 : r.rule.kind ≡ 3 → fits (as_rule r) d ≡ yearly_fits true r m d
    unfolding fits on on_it
    fits_3 e = rw (e, v) (yearly_is true m (valid_is r.rule.month m v))

  pub fits_4 : r.rule.kind ≡ 4 → fits (as_rule r) d ≡ monthly_fits false r d
  unfolding fits on on_it
  fits_4 e = rw e (monthly_is false)

  pub fits_5 : r.rule.kind ≡ 5 → fits (as_rule r) d ≡ monthly_fits true r d
  unfolding fits on on_it
  fits_5 e = rw e (monthly_is true)

  pub fits_6 : r.rule.kind ≡ 6 → fits (as_rule r) d ≡ weekly_fits r d
  unfolding fits
  fits_6 e = rw e

-- ---- daily

module _ (r : Scaled) (at q : ℕ) (step : 0 < r.rule.period) (from : r.from ≤ at) (up : UpTo (at - r.from) r.rule.period q) where
  pub daily_fit : (x : ℕ) → x ≡ r.from + q * r.rule.period → q < 5000 → FirstFit (daily_fits r) r.last at x
  daily_fit x e h =
      let o : x - r.from ≡ q * r.rule.period = omega arith in
      record {
        on = λ l. omega (arith, up.reach);
        before = λ d a l n. off_step (at - r.from) r.rule.period q most_days (d - r.from) up (omega arith) (omega arith);
        hit = λ l. rw o (on_step q r.rule.period most_days step h);
      }

-- ---- yearly

pub yearly_units : (b : Bool) (r : Scaled) (m : ℕ) → IsMonth m → Units (yearly_fits b r m) year_of (counts_year r) (λ y. candidate_of b r y m)
yearly_units b r m h = record { rises = year_rises; lies = λ k x e. (candidate_lies r.rule.day r.rule.item r.rule.position b x k m h e).year; fitting = λ d. refl }

pub yearly_none : (b : Bool) (r : Scaled) (m : ℕ) (at y end : ℕ) → IsMonth m → Passed (yearly_fits b r m) year_of at y → end ≡ min (year_of r.last) (year_of r.from + 200) → end < y → FirstFit (yearly_fits b r m) r.last at (suc r.last)
yearly_none b r m at y end h p e past =
    no_unit (yearly_fits b r m) year_of (counts_year r) (λ y. candidate_of b r y m) (yearly_units b r m h) at y r.last p
    (λ i low high. lt-leb i (year_of r.from + 200) (omega arith))

-- ---- monthly

pub monthly_units : (b : Bool) (r : Scaled) → Units (monthly_fits b r) month_at (counts_month r) (candidate_at b r)
monthly_units b r =
    record {
      rises = month_rises;
      lies = λ k x e. lies k x (candidate_lies r.rule.day r.rule.item r.rule.position b x (k / 12) (k % 12 + 1) (omega arith) e);
      fitting = λ d. refl;
    }
  where
    lies : (k x : ℕ) → Lies x (k / 12) (k % 12 + 1) → month_at x ≡ k
    lies k x l = rw (l.year, l.month) (omega arith)

-- the month after q steps
abbrev pub step_month : Scaled → ℕ → ℕ
step_month r q = month_at r.from + q * r.rule.period

module _ (b : Bool) (r : Scaled) (at : ℕ) (step : 0 < r.rule.period) where
  over : (n q k : ℕ) → UpTo n r.rule.period q → k ≡ month_at r.from + n → Passed (monthly_fits b r) month_at at k → Passed (monthly_fits b r) month_at at (step_month r q)
  over n q k u e p =
      pass_over (monthly_fits b r) month_at (counts_month r) (candidate_at b r) (monthly_units b r) at k (step_month r q) p
      (λ i low high. off_step n r.rule.period q 2400 (i - month_at r.from) u (omega arith) (omega arith))

  pub monthly_first : (q : ℕ) → r.from ≤ at → UpTo (month_at at - month_at r.from) r.rule.period q → Passed (monthly_fits b r) month_at at (step_month r q)
  monthly_first q h u =
      over (month_at at - month_at r.from) q (month_at at) u (omega (arith, month_rises r.from at h))
      (pass_none (monthly_fits b r) month_at (counts_month r) (candidate_at b r) (monthly_units b r) at)

  pub monthly_next : (q : ℕ) → Passed (monthly_fits b r) month_at at (suc (step_month r q)) → Passed (monthly_fits b r) month_at at (step_month r (suc q))
  monthly_next q = over (suc (q * r.rule.period)) (suc q) (suc (step_month r q)) (one_up q r.rule.period step) (omega arith)

  pub monthly_fit : (q x : ℕ) (o : Option ℕ) → o ≡ candidate_at b r (step_month r q) → o ≡ Some x → at ≤ x → q < 2400 → Passed (monthly_fits b r) month_at at (step_month r q) → FirstFit (monthly_fits b r) r.last at x
  monthly_fit q x o e f l h p =
      let g : step_month r q - month_at r.from ≡ q * r.rule.period = omega arith in
      fit_unit (monthly_fits b r) month_at (counts_month r) (candidate_at b r) (monthly_units b r) at (step_month r q) o p e x r.last f l (rw g (on_step q r.rule.period 2400 step h))

  none_from : (q : ℕ) → Passed (monthly_fits b r) month_at at (step_month r q) → ((i : ℕ) → step_month r q ≤ i → i ≤ month_at r.last → counts_month r i ≡ false) → FirstFit (monthly_fits b r) r.last at (suc r.last)
  none_from q p h = no_unit (monthly_fits b r) month_at (counts_month r) (candidate_at b r) (monthly_units b r) at (step_month r q) r.last p h

  pub monthly_past : (q : ℕ) → month_at r.last < step_month r q → Passed (monthly_fits b r) month_at at (step_month r q) → FirstFit (monthly_fits b r) r.last at (suc r.last)
  monthly_past q h p = none_from q p (λ i low high. absurd (omega arith))

  pub monthly_none : (q : ℕ) → 2400 ≤ q → Passed (monthly_fits b r) month_at at (step_month r q) → FirstFit (monthly_fits b r) r.last at (suc r.last)
  monthly_none q h p = none_from q p (λ i low high. past_steps r.rule.period 2400 (i - month_at r.from) step (omega (arith, mul-le-mul_right r.rule.period h)))

-- ---- weekly

pub week_day : (w0 step d q : ℕ) → w0 ≤ d → UpTo ((d - w0) / 7) step q → WeekDay w0 step d (max d (w0 + q * step * 7))
week_day w0 step d q h u = by (dec_lt d (w0 + q * step * 7)) u
  where
    by : Dec (d < w0 + q * step * 7) → UpTo ((d - w0) / 7) step q → WeekDay w0 step d (max d (w0 + q * step * 7))
    by (yes l) u =
        let g : max d (w0 + q * step * 7) ≡ w0 + q * step * 7 = omega arith in
        let w : (w0 + q * step * 7 - w0) / 7 ≡ q * step = omega arith in
        rw g (record {
          on = omega arith;
          between = λ e a b. ne_eqb ((e - w0) / 7 % step) 0 (u.between ((e - w0) / 7) (omega arith) (omega arith));
          here = rw (w, mul-mod_left q step);
        })
    by (no n) u =
        let g : max d (w0 + q * step * 7) ≡ d = omega arith in
        let w : (d - w0) / 7 ≡ q * step = omega (arith, u.reach) in
        rw g (record { on = omega arith; between = λ e a b. absurd (omega arith); here = rw (w, mul-mod_left q step) })

-- no date from `at` on to before d fits
abbrev pub PassedDays : Scaled → ℕ → ℕ → Type 0
PassedDays r at d = (e : ℕ) → at ≤ e → e < d → weekly_fits r e ≡ false

-- the Sunday on or before `from`
abbrev pub sunday_of : Scaled → ℕ
sunday_of r = r.from - sunday_first r.from

module _ (r : Scaled) (at d g : ℕ) (w : WeekDay (sunday_of r) r.rule.period d g) (p : PassedDays r at d) where
  pub to_week : PassedDays r at g
  to_week e a l = by (dec_lt e d)
    where
      by : Dec (e < d) → weekly_fits r e ≡ false
      by (yes h) = p e a h
      by (no h) = rw (w.between e (omega arith) l) (and-false (on_weekday (as_rule r) e))

  pub past_day : on_mask r.rule.weekdays g ≡ false → PassedDays r at (g + 1)
  unfolding twos
  past_day off e a l = by (dec_lt e g)
    where
      by : Dec (e < g) → weekly_fits r e ≡ false
      by (yes h) = to_week e a h
      by (no h) = let q : e ≡ g = omega arith in rw (q, off)

  pub weekly_fit : on_mask r.rule.weekdays g ≡ true → g ≤ r.from + century → at ≤ g → FirstFit (weekly_fits r) r.last at g
  unfolding twos
  weekly_fit on h o = record { on = λ l. o; before = λ e a l n. to_week e a l; hit = λ l. rw (on, w.here, le-leb g (r.from + century) h) }
