-- Document 01's fields keep the promises of Formats: flags, codes, times, periods, signed numbers, dates, and what may be missing. Assumes nothing.
use Rattle.std.specs.Prelude.{if◌then◌else◌, ◌≡◌, Bool, leb, eqb, ℤ}
use Rattle.std.proofs.Math.Path.{refl}
use Rattle.std.proofs.Common.{ap, ◌∙◌, subst}
use Rattle.std.proofs.Math.Bool.{true, false}
use Rattle.std.specs.Prelude.{Some, None}
use Prim.Native.Nat.{ℕ, zero, suc, ◌+◌, ◌-◌, ◌^◌, ◌≤◌, ◌<◌}
use native.Mathlib.Omega.{arith}
use borrow.Author.Tests.{leb-true, ltb-true, ltb-false, le-leb, lt-ltb, le-ltb}
use Rattle.std.proofs.Math.Dec.{ltb}
use Rattle.std.proofs.Math.IntN.{pos, negsuc}
use Rattle.definition.specs.Base.{when, given, within}
use Rattle.definition.specs.Bits.{twos, signed}
use Rattle.definition.specs.Date.{Date, epoch, first_date, last_date, day_number, from_days}
use Rattle.definition.specs.Time.{most_time}
use Rattle.definition.specs.Format.{Format, Period, bit, flag, code, time, number, period, optional, earlier, periods}
use Rattle.laws.specs.Bools.{Within, within_is, is_within}
use Rattle.laws.specs.Options.{never, when_is}
use Rattle.laws.specs.Formats.{got, Good, good_field, ◌&◌, IfGiven, good_depending, Stands, good_via, Rising, good_list}

-- ---- fields

-- a test of a value, and what it says
tested : {A : Type 0} (test : A → Bool) {F G : A → Type 0}
    → ((a : A) → G a → F a) → ((a : A) → G a → test a ≡ true) → ((a : A) → F a → test a ≡ true → G a) → Stands (λ v. when (test v) v) (λ v. v) F G
tested test {G = G} fits there back = record {
  fits = fits;
  there = λ a h. rw (there a h);
  back = λ a b f h. let (t, q) = when_is (test a) a b h in subst (λ b. (b ≡ a) × G b) q (refl, back a f t);
}

-- a flag is 0 or 1
pub good_flag : Good flag (λ b. Unit {0})
unfolding flag
good_flag = good_via (record { fits = fits; there = there; back = back }) (good_field 1)
  where
    fits : (b : Bool) → Unit {0} → bit b < 2
    fits true h = omega arith
    fits false h = omega arith

    there : (b : Bool) → Unit {0} → Some (eqb (bit b) 1) ≡ Some b
    there true h = refl
    there false h = refl

    again : (v : ℕ) → v < 2 → bit (eqb v 1) ≡ v
    again zero h = refl
    again (suc zero) h = refl
    again (suc (suc v)) h = absurd (omega arith)

    back : (v : ℕ) (b : Bool) → v < 2 → Some (eqb v 1) ≡ Some b → (bit b ≡ v) × Unit {0}
    back v b h e = got (λ b. (bit b ≡ v) × Unit {0}) e (again v h, tt)

-- a code in its range
pub good_code : (lo hi : ℕ) → hi < 16 → Good (code lo hi) (Within lo hi)
unfolding code
good_code lo hi k =
    good_via
    (tested (within lo hi) (λ v h. omega arith) (is_within lo hi) (λ v f t. within_is lo hi v t))
    (good_field 4)

-- a time of a day
pub good_time : Good time (λ t. t ≤ most_time)
unfolding time
good_time = good_via (tested (λ v. leb v most_time) (λ v h. omega arith) (λ v h. le-leb v most_time h) (λ v f t. leb-true v most_time t)) (good_field 11)

-- a period begins before it ends
abbrev pub IsPeriod : Period → Type 0
IsPeriod p = (p.0 < p.1) × (p.1 ≤ most_time)

pub good_period : Good period IsPeriod
unfolding period
good_period =
    good_via
    (tested (λ (p : Period). ltb p.0 p.1) (λ p h. (omega arith, omega arith)) (λ p h. lt-ltb p.0 p.1 h.0)
    (λ p f t. (ltb-true p.0 p.1 t, f.1)))
    (good_time & good_time)

pub good_periods : Good periods (Rising earlier IsPeriod)
unfolding periods
good_periods = good_list earlier good_period

-- ---- signed numbers

-- from -(2 ^ (w - 1)) to 2 ^ (w - 1) - 1
abbrev pub Signed : ℕ → ℤ → Type 0
Signed w (pos n) = n < 2 ^ (w - 1)
Signed w (negsuc n) = n < 2 ^ (w - 1)

module _ (w : ℕ) (twice : 2 ^ w ≡ 2 ^ (w - 1) + 2 ^ (w - 1)) where
  pub twos_fits : (z : ℤ) → Signed w z → twos w z < 2 ^ w
  unfolding twos
  twos_fits (pos n) h = omega arith
  twos_fits (negsuc n) h = omega arith

  pub signed_twos : (z : ℤ) → Signed w z → signed w (twos w z) ≡ z
  unfolding twos signed
  signed_twos (pos n) h = rw (lt-ltb n (2 ^ (w - 1)) h)
  signed_twos (negsuc n) h = rw (le-ltb (2 ^ w - suc n) (2 ^ (w - 1)) (omega arith)) (ap negsuc (omega arith))

  pub twos_signed : (v : ℕ) → v < 2 ^ w → (twos w (signed w v) ≡ v) × Signed w (signed w v)
  unfolding twos signed
  twos_signed v h = go (ltb v (2 ^ (w - 1))) refl
    where
      go : (t : Bool) → ltb v (2 ^ (w - 1)) ≡ t
          → let z = if t then pos v else negsuc (2 ^ w - suc v) in (twos w z ≡ v) × Signed w z
      go true e = (refl, ltb-true v (2 ^ (w - 1)) e)
      go false e = let k = ltb-false v (2 ^ (w - 1)) e in (omega arith, omega arith)

pub good_number : Good number (Signed 64)
unfolding number
good_number =
    good_via
    (record {
      fits = twos_fits 64 refl;
      there = λ z h. ap Some (signed_twos 64 refl z h);
      back = λ v z h e. got (λ z. (twos 64 z ≡ v) × Signed 64 z) e (twos_signed 64 refl v h);
    })
    (good_field 64)

-- ---- dates

-- in the years -9999 to 9999
abbrev pub InYears : Date → Type 0
InYears d = Within first_date last_date d

day_late : (d : Date) → epoch ≤ d → day_number d ≡ pos (d - epoch)
unfolding day_number
day_late d h = rw (le-ltb d epoch h)

day_early : (d : Date) → d < epoch → day_number d ≡ negsuc (epoch - suc d)
unfolding day_number
day_early d h = rw (lt-ltb d epoch h)

-- by whether a date lies before the epoch
by_epoch : (P : Date → Type 0) → ((d : Date) → epoch ≤ d → P d) → ((d : Date) → d < epoch → P d) → (d : Date) → P d
by_epoch P late early d = go (ltb d epoch) refl
  where
    go : (t : Bool) → ltb d epoch ≡ t → P d
    go true e = early d (ltb-true d epoch e)
    go false e = late d (ltb-false d epoch e)

pub days_day : (d : Date) → InYears d → from_days (day_number d) ≡ Some d
unfolding from_days
days_day =
    by_epoch (λ d. InYears d → from_days (day_number d) ≡ Some d)
    (λ d k h. let e : d - epoch + epoch ≡ d = omega arith in rw (day_late d k, e, is_within first_date last_date d h))
    (λ d k h.
    let e : epoch - suc (epoch - suc d) ≡ d = omega arith in
    rw (day_early d k, lt-ltb (epoch - suc d) epoch (omega arith), e, is_within first_date last_date d h))

pub day_days : (z : ℤ) (d : Date) → from_days z ≡ Some d → (day_number d ≡ z) × InYears d
unfolding from_days
day_days (pos n) d h =
    let (p, q) = when_is (within first_date last_date (n + epoch)) (n + epoch) d h in
    subst (λ d. (day_number d ≡ pos n) × InYears d) q (day_late (n + epoch) (omega arith) ∙ ap pos (omega arith), within_is first_date last_date (n + epoch) p)
day_days (negsuc n) d h = go (ltb n epoch) refl h
  where
    go : (t : Bool) → ltb n epoch ≡ t → (if t then when (within first_date last_date (epoch - suc n)) (epoch - suc n) else None) ≡ Some d
        → (day_number d ≡ negsuc n) × InYears d
    go true e h =
        let k = ltb-true n epoch e in
        let (p, q) = when_is (within first_date last_date (epoch - suc n)) (epoch - suc n) d h in
        subst (λ d. (day_number d ≡ negsuc n) × InYears d) q
        (day_early (epoch - suc n) (omega arith) ∙ ap negsuc (omega arith), within_is first_date last_date (epoch - suc n) p)
    go false e h = never h

pub day_fits : (d : Date) → InYears d → Signed 32 (day_number d)
day_fits = by_epoch (λ d. InYears d → Signed 32 (day_number d)) (λ d k h. rw (day_late d k) (omega arith)) (λ d k h. rw (day_early d k) (omega arith))

-- ---- a value or none

pub good_optional : {A : Type 0} {f : Format A} {F : A → Type 0} → Good f F → Good (optional f) (IfGiven F)
unfolding optional
good_optional {A} {F = F} g =
    good_via
    (record {
      fits = λ o h. (tt, (refl, h));
      there = λ o h. refl;
      back = λ p o h e. got (λ o. ((given o, o) ≡ p) × IfGiven F o) e (ap (λ (t : Bool). (t, p.1)) h.1.0, h.1.1);
    })
    (good_depending (λ b. b) good_flag g)
