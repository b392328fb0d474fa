-- Rows of numbers that do not fall: the last one that is reached. And tests over the first numbers, which antt computes. Assumes nothing.
use Prim.Native.Nat.{ℕ, zero, suc, ◌≤◌, ◌<◌}
use Rattle.std.proofs.Math.Decide.{dec_lt}
use native.Mathlib.Omega.{arith}
use Rattle.std.specs.Prelude.{if◌then◌else◌, ◌≡◌, Bool, ◌&&◌, T, leb}
use Rattle.std.proofs.Math.Path.{refl}
use Rattle.std.proofs.Math.Bool.{true, false}
use Rattle.std.proofs.Common.{leb-true, leb-false}
use Rattle.std.proofs.Math.Facts.{and_yes}

-- of the first k numbers of a row, the last that is at most n; 0 where there is none
unfoldable pub last : (ℕ → ℕ) → ℕ → ℕ → ℕ
last f zero n = 0
last f (suc k) n = if leb (f k) n then k else last f k n

module _ (f : ℕ → ℕ) where
  within_step : (k n r : ℕ) (t : Bool) → r ≤ k → (if t then suc k else r) ≤ suc k
  within_step k n r true h = omega arith
  within_step k n r false h = omega arith

  pub last_within : (k n : ℕ) → last f (suc k) n ≤ k
  unfolding last
  last_within zero n = within_zero (leb (f zero) n)
    where
      within_zero : (t : Bool) → (if t then 0 else 0) ≤ 0
      within_zero true = omega arith
      within_zero false = omega arith
  last_within (suc k) n = within_step k n (last f (suc k) n) (leb (f (suc k)) n) (last_within k n)

  reached_step : (k n r : ℕ) (t : Bool) → leb (f k) n ≡ t → f r ≤ n → f (if t then k else r) ≤ n
  reached_step k n r true e h = leb-true (f k) n e
  reached_step k n r false e h = h

  pub last_reached : (k n : ℕ) → f 0 ≤ n → f (last f k n) ≤ n
  unfolding last
  last_reached zero n h = h
  last_reached (suc k) n h = reached_step k n (last f k n) (leb (f k) n) refl (last_reached k n h)

  passed_step : (k n r : ℕ) (t : Bool) → leb (f k) n ≡ t → n < f (suc k) → (n < f k → n < f (suc r)) → n < f (suc (if t then k else r))
  passed_step k n r true e h more = h
  passed_step k n r false e h more = more (leb-false (f k) n e)

  pub last_passed : (k n : ℕ) → f 0 ≤ n → n < f k → n < f (suc (last f k n))
  unfolding last
  last_passed zero n low h = absurd (omega arith)
  last_passed (suc k) n low h = passed_step k n (last f k n) (leb (f k) n) refl h (last_passed k n low)

module _ (f : ℕ → ℕ) (rises : (j : ℕ) → f j ≤ f (suc j)) where
  pub rising : (i j : ℕ) → i ≤ j → f i ≤ f j
  rising i zero h = let e : i ≡ 0 = omega arith in rw e (omega arith)
  rising i (suc j) h = by (dec_lt i (suc j)) (rising i j)
    where
      by : Dec (i < suc j) → (i ≤ j → f i ≤ f j) → f i ≤ f (suc j)
      by (yes l) more = let m : f i ≤ f j = more (omega arith) in omega (arith, rises j)
      by (no g) more = let e : i ≡ suc j = omega arith in rw e (omega arith)

  pub lower : (i j : ℕ) → f i < f j → i < j
  lower i j h = by (dec_lt i j)
    where
      by : Dec (i < j) → i < j
      by (yes l) = l
      by (no g) = absurd (omega (arith, rising j i (omega arith)))

  found_step : (k j n r : ℕ) (t : Bool) → leb (f k) n ≡ t → j < suc k → f j ≤ n → n < f (suc j) → (j < k → r ≡ j) → (if t then k else r) ≡ j
  found_step k j n r true e h low high more = omega (arith, lower k (suc j) (omega (arith, leb-true (f k) n e)))
  found_step k j n r false e h low high more = more (lower j k (omega (arith, leb-false (f k) n e)))

  pub last_found : (k j n : ℕ) → j < k → f j ≤ n → n < f (suc j) → last f k n ≡ j
  unfolding last
  last_found zero j n h low high = absurd (omega arith)
  last_found (suc k) j n h low high =
      found_step k j n (last f k n) (leb (f k) n) refl h low high (λ l. last_found k j n l low high)

-- ---- a test that the numbers below n pass

abbrev pub all : (ℕ → Bool) → ℕ → Bool
all p zero = true
all p (suc n) = p n && all p n

pub at : (p : ℕ → Bool) (n : ℕ) → T (all p n) → (k : ℕ) → k < n → T (p k)
at p zero t k h = absurd (omega arith)
at p (suc n) t k h = by (and_yes (p n) (all p n) t) (dec_lt k n) (λ u l. at p n u k l)
  where
    by : T (p n) × T (all p n) → Dec (k < n) → (T (all p n) → k < n → T (p k)) → T (p k)
    by s (yes l) more = more s.1 l
    by s (no g) more = let e : k ≡ n = omega arith in rw e s.0
