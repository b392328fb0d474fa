-- Numbers with a sign, as the machine holds them and as they are counted from a first one. Assumes nothing.
use Rattle.std.specs.Prelude.{if◌then◌else◌}
use Prim.Native.Nat.{ℕ, zero, suc, ◌+◌, ◌-◌, ◌^◌, ◌≤◌, ◌<◌}
use native.Mathlib.Omega.{arith}
use native.Mathlib.Nat.{add_comm}
use mathlib.Core.Path.{◌≡◌, refl, sym, ap, ◌∙◌}
use mathlib.Core.Bool.{Bool, true, false, cond, ◌&&◌, and-true}
use Rattle.std.specs.Prelude.{Option, Some, None, Result, Ok, Err}
use Rattle.std.specs.Option.{MatchOption, SomeIff, IsSomeAnd}
use Rattle.std.specs.Bool.{then_some}
use Rattle.std.specs.Int.{FitsUnsigned, FitsUnsignedBits}
use Rattle.std.specs.Prelude.{unsigned_abs}
use Rattle.std.specs.Result.{OkIff, result_unwrap_or}
use lib.Dec.{leb, ltb, lt→ltb, le→leb}
use lib.IntN.{ℤ, pos, negsuc, nat_abs, ◌-ℤ◌, ◌+ℤ◌}
use lib.Signed.{mag}
use mir.Syntax.{w32}
use mir.Val.{to_z, of_z, SFits}
use mir.ValLaws.{to_z-of_z}
use borrow.Author.Tests.{le-leb, lt-leb, leb-true, leb-false, lt-ltb, le-ltb, ltb-true, ltb-false}
use Rattle.definition.specs.Base.{◌>>=◌, when, within}
use Rattle.definition.specs.Date.{from_days, year_at, epoch, first_date, last_date}
use Rattle.date.specs.Answer.{placed, upward}

-- ---- a number passed on, and a sum

module _ (z : ℤ) (h : SFits w32 z) where
  -- a number that is passed on
  pub back : to_z w32 (of_z w32 z) ≡ z
  back = to_z-of_z w32 z h

-- ---- differences

sub_mag : (n b k : ℕ) → n < k → b < k → (t : Bool) → mag (cond t (negsuc (suc b - suc n)) (pos (n - suc b))) < k
sub_mag n b k h l true = omega arith
sub_mag n b k h l false = omega arith

pub minus_mag : (n b k : ℕ) → n < k → b < k → mag (pos n -ℤ pos b) < k
minus_mag n zero k h l = omega arith
minus_mag n (suc b) k h l = sub_mag n b k h (omega arith) (ltb n (suc b))

module _ (n b : ℕ) (h : n < 2 ^ 31) (l : b < 2 ^ 31) where
  near : SFits w32 (pos n -ℤ pos b)
  near = record { sfits = minus_mag n b (2 ^ 31) h l }

  -- the difference, passed on
  pub difference_back : (z : ℤ) → z ≡ pos n -ℤ pos b → to_z w32 (of_z w32 z) ≡ pos n -ℤ pos b
  difference_back z e = ap (λ (x : ℤ). to_z w32 (of_z w32 x)) e ∙ to_z-of_z w32 (pos n -ℤ pos b) near

-- ---- places

same_leb : (a b c d : ℕ) → (a ≤ b → c ≤ d) → (c ≤ d → a ≤ b) → leb a b ≡ leb c d
same_leb a b c d f g = by (leb a b) refl
  where
    by : (t : Bool) → leb a b ≡ t → t ≡ leb c d
    by true e = sym (le-leb c d (f (leb-true a b e)))
    by false e = by_le (leb c d) refl (leb-false a b e)
      where
        by_le : (t : Bool) → leb c d ≡ t → b < a → false ≡ t
        by_le true u l = absurd (omega (arith, g (leb-true c d u)))
        by_le false u l = refl

pub then_when : {A : Type 0} (t : Bool) (x : A) → then_some t x ≡ when t x
then_when true x = refl
then_when false x = refl

beyond : (first last p : ℕ) → last < p → when (within first last p) p ≡ None
beyond first last p h = by (leb first p)
  where
    by : (t : Bool) → when (t && leb p last) p ≡ None
    by true = rw (lt-leb p last h)
    by false = refl

-- a place by the sum, where that is a number of 32 bits
module _ (from first last : ℕ) (l : last < 2 ^ 32) where
  abbrev inside : Option ℕ → Option ℕ
  inside o = o >>= λ k. when (within first last k) k

  at_sum : (k : ℕ) (o : Option ℕ) → SomeIff o (FitsUnsigned w32 (pos k)) k → inside o ≡ when (within first last k) k
  at_sum k (Some x) g = rw g.1 refl
  at_sum k None g = by (ltb k (2 ^ 32)) refl
    where
      by : (t : Bool) → ltb k (2 ^ 32) ≡ t → None ≡ when (within first last k) k
      by true u = absurd (g (record { le = le→leb 0 k (omega arith) }, record { lt = lt→ltb k (2 ^ 32) (ltb-true k (2 ^ 32) u) }))
      by false u = sym (beyond first last k (omega (arith, ltb-false k (2 ^ 32) u)))

  abbrev difference : ℕ → Bool → ℤ
  difference n t = cond t (negsuc (suc n - suc from)) (pos (from - suc n))

  below : (n : ℕ) (o : Option ℕ) (t : Bool) → ltb from (suc n) ≡ t → SomeIff o (FitsUnsigned w32 (difference n t)) (nat_abs (difference n t))
      → inside o ≡ (if ltb n from then when (within first last (from - suc n)) (from - suc n) else None)
  below n (Some x) true u g = absurd g.0.0.le
  below n None true u g = rw (le-ltb n from (omega (arith, ltb-true from (suc n) u))) refl
  below n o false u g = rw (lt-ltb n from (omega (arith, ltb-false from (suc n) u))) (at_sum (from - suc n) o g)

  pub summed : (z : ℤ) (o : Option ℕ) → SomeIff o (FitsUnsigned w32 (pos from +ℤ z)) (unsigned_abs (pos from +ℤ z)) → inside o ≡ placed from first last z
  unfolding placed
  summed (pos n) o g = rw (add_comm n from) (at_sum (from + n) o g)
  summed (negsuc n) o g = below n o (ltb from (suc n)) refl g

pub days_placed : (z : ℤ) → from_days z ≡ placed epoch first_date last_date z
unfolding from_days placed
days_placed (pos n) = refl
days_placed (negsuc n) = refl

year_below : (y : ℕ) (t : Bool) → ltb y 10000 ≡ t
    → when (ltb y 9999) (9999 - y) ≡ (if t then when (within 1 19999 (10000 - suc y)) (10000 - suc y) else None)
year_below y true e =
    let l : y < 10000 = ltb-true y 10000 e in
    let a : leb (suc y) 9999 ≡ leb 1 (10000 - suc y) = same_leb (suc y) 9999 1 (10000 - suc y) (λ h. omega arith) (λ h. omega arith) in
    let b : 10000 - suc y ≡ 9999 - y = omega arith in
    simp (a, b, le-leb (9999 - y) 19999 (omega arith), and-true)
year_below y false e = simp (le-ltb y 9999 (omega (arith, ltb-false y 10000 e)))

pub year_placed : (z : ℤ) → year_at z ≡ placed 10000 1 19999 z
unfolding year_at placed
year_placed (pos y) =
    let a : leb y 9999 ≡ leb (y + 10000) 19999 = same_leb y 9999 (y + 10000) 19999 (λ h. omega arith) (λ h. omega arith) in
    simp (a, le-leb 1 (y + 10000) (omega arith), add_comm 10000 y)
year_placed (negsuc y) = year_below y (ltb y 10000) refl

-- ---- what is placed

-- d stands for the number z, counted from `from` below 0 on
pub record Counted (from first last d : ℕ) (z : ℤ) : Type 0 where
  pub low : first ≤ d
  pub high : d ≤ last
  pub number : pos d -ℤ pos from ≡ z

record Kept (first last d p : ℕ) : Type 0 where
  is : p ≡ d
  low : first ≤ d
  high : d ≤ last

kept : (first last d p : ℕ) (a b : Bool) → leb first p ≡ a → leb p last ≡ b → when (a && b) p ≡ Some d → Kept first last d p
kept first last d p true true u v e =
    let g : p ≡ d = cc in
    record { is = g; low = omega (arith, leb-true first p u); high = omega (arith, leb-true p last v) }
kept first last d p true false u v e = let z : ◌≡◌ {A = ℕ} 0 1 = cc in absurd (omega arith)
kept first last d p false b u v e = let z : ◌≡◌ {A = ℕ} 0 1 = cc in absurd (omega arith)

counted_pos : (f first last d n : ℕ) → Kept first last d (n + suc f) → Counted (suc f) first last d (pos n)
counted_pos f first last d n k =
    let e : n + suc f ≡ d = k.is in
    record { low = k.low; high = k.high; number = simp (le-ltb d (suc f) (omega arith)) (ap pos (omega arith)) }

counted_neg : (f first last d n : ℕ) (t : Bool) → ltb n (suc f) ≡ t
    → (if t then when (within first last (suc f - suc n)) (suc f - suc n) else None) ≡ Some d → Counted (suc f) first last d (negsuc n)
counted_neg f first last d n true u e =
    let p = suc f - suc n in
    let k = kept first last d p (leb first p) (leb p last) refl refl e in
    let l : n < suc f = ltb-true n (suc f) u in
    let g : suc f - suc n ≡ d = k.is in
    record { low = k.low; high = k.high; number = simp (lt-ltb d (suc f) (omega arith)) (ap negsuc (omega arith)) }
counted_neg f first last d n false u e = let z : ◌≡◌ {A = ℕ} 0 1 = cc in absurd (omega arith)

-- `from` is f + 1
pub counted : (f first last d : ℕ) (z : ℤ) → placed (suc f) first last z ≡ Some d → Counted (suc f) first last d z
unfolding placed
counted f first last d (pos n) e =
    counted_pos f first last d n (kept first last d (n + suc f) (leb first (n + suc f)) (leb (n + suc f) last) refl refl e)
counted f first last d (negsuc n) e = counted_neg f first last d n (ltb n (suc f)) refl e

-- ---- days and years

pub days_counted : (z : ℤ) (d : ℕ) → from_days z ≡ Some d → Counted epoch first_date last_date d z
days_counted z d e = counted 4371952 first_date last_date d z (sym (days_placed z) ∙ e)

pub year_counted : (z : ℤ) (y : ℕ) → year_at z ≡ Some y → Counted 10000 1 19999 y z
year_counted z y e = counted 9999 1 19999 y z (sym (year_placed z) ∙ e)

-- ---- from one number to another

pub between : {E : Type 0} (r : Result ℕ E) (z : ℤ) → ((n : ℕ) → z ≡ pos n → n < 2 ^ 32) → OkIff r (FitsUnsignedBits 32 z) (nat_abs z) → result_unwrap_or r 0 ≡ upward z
between (Ok x) (pos n) l h = h.1
between (Ok x) (negsuc n) l h = absurd h.0
between (Err e) (pos n) l h = absurd (h (l n refl))
between (Err e) (negsuc n) l h = refl

-- ---- what `map` gives

pub mapped : {A : Type 0} (f : ℕ → A) (o : Option ℕ) (r : Option A) → MatchOption o (r ≡ None) (λ x. IsSomeAnd r (λ y. y ≡ f x)) → r ≡ (o >>= λ d. Some (f d))
mapped f None r h = h
mapped f (Some x) (Some y) h = ap Some h
mapped f (Some x) None h = absurd h
