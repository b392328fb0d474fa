-- Laws of floats: the order and the sign, numbers that are floats exactly, what is not below 0, and how far whole numbers and hundredths reach.
-- Assumes nothing.
use Rattle.std.specs.Prelude.{◌≡◌, refl, ◌⊎◌, Bool, true, false, cond, not, ◌&&◌, ◌||◌, ℕ, zero, suc, ◌+◌, ◌-◌, ◌*◌, ◌/◌, ◌^◌, ◌≤◌, ◌<◌, T, ltb, eqb, ℤ, pos, Float}
use Rattle.std.proofs.Common.{sym, ap, ◌∙◌, subst, inl, inr, zero-le, mul-pos, mul-one, zero-mul, zero-lt-suc, le_of_lt, le_of_eq, add_comm, mul-le-mul_right, add-mul, mul_assoc, div-lt_iff_lt-mul, arith, lt-ltb, le-ltb, eqb-true, eq-eqb, ne_eqb, eqb→eq, ltb→lt}
use Rattle.std.specs.Bool.{beq}
use Rattle.std.proofs.lemmas.Bool.{eqb-false}
use Rattle.std.proofs.Math.Dec.{eqb-suc-zero}
use Rattle.std.specs.Float.{nan, inf, fin, Format, binary64}
use Rattle.std.specs.Float.Ieee.{up, down, low, prec, emax, odd, units, round, sum, add, mul, div, unlike, neg, le, lt, eq, below, level}
use Rattle.std.specs.Float.Ieee.Fits.{up_pos, down_pos, and_l, and_r}
use Rattle.std.specs.Float.Ieee.Exact.{HasValue}
use Rattle.std.specs.Float.Ieee.Back.{round_whole}
use Rattle.std.specs.Float.Ieee.Scale.{round_same}
use Rattle.std.specs.Float.Ieee.Order.{le_of_values, round_mono}
use Rattle.std.specs.Float.Ieee.Positive.{through}
use Rattle.definition.specs.Number.{float, zero_float, half_away}

-- ---- tests as equations

pub is_true : (b : Bool) → T b → b ≡ true
is_true true t = refl
is_true false t = absurd t

pub eqb_swap : (m n : ℕ) → eqb m n ≡ eqb n m
eqb_swap m n = go (eqb n m) (eqb-true n m) (eqb-false n m)
  where
    go : (t : Bool) → (t ≡ true → n ≡ m) → (t ≡ false → n ≡ m → ⊥) → eqb m n ≡ t
    go true h k = eq-eqb m n (sym (h refl))
    go false h k = ne_eqb m n (λ (e : m ≡ n). k refl (sym e))

-- ---- the opposite

odd_neg : (d q k l : ℕ) → odd d true q k l ≡ neg (odd d false q k l)
unfolding odd neg
odd_neg d zero k l = refl
odd_neg d (suc q) k l = refl

units_neg : (f : Format) (q k : ℕ) → units f true q k ≡ neg (units f false q k)
unfolding units neg
units_neg f q k = go (ltb (q * 2 ^ k) (2 ^ (low f + suc (emax f))))
  where
    go : (t : Bool) → cond t (odd (suc (prec f)) true q k (low f)) (inf true) ≡ neg (cond t (odd (suc (prec f)) false q k (low f)) (inf false))
    go true = odd_neg (suc (prec f)) q k (low f)
    go false = refl

pub round_neg : (f : Format) (a b : ℕ) → round f true a b ≡ neg (round f false a b)
unfolding round
round_neg f a b = units_neg f _ _

level_swap : (s t : Bool) (a b : ℕ) → level (not s) a (not t) b ≡ level t b s a
level_swap s t a b = go (eqb b a) (eqb-true b a) (eqb_swap a b)
  where
    signs : (s t : Bool) → beq (not s) (not t) ≡ beq t s
    signs true true = refl
    signs true false = refl
    signs false true = refl
    signs false false = refl

    go : (e : Bool) → (e ≡ true → b ≡ a) → eqb a b ≡ e → eqb a b && (beq (not s) (not t) || eqb a 0) ≡ e && (beq t s || eqb b 0)
    go true h k = rw (k, signs s t, h refl)
    go false h k = rw k

below_swap : (s t : Bool) (a b : ℕ) → below (not s) a (not t) b ≡ below t b s a
below_swap true true a b = refl
below_swap true false a b = refl
below_swap false true a b = ap (λ (n : ℕ). ltb 0 n) (add_comm a b)
below_swap false false a b = refl

pub le_neg : (x y : Float) → le (neg x) (neg y) ≡ le y x
unfolding le lt eq neg
le_neg nan nan = refl
le_neg nan (inf t) = refl
le_neg nan (fin t n d) = refl
le_neg (inf s) nan = refl
le_neg (inf true) (inf true) = refl
le_neg (inf true) (inf false) = refl
le_neg (inf false) (inf true) = refl
le_neg (inf false) (inf false) = refl
le_neg (inf true) (fin t n d) = refl
le_neg (inf false) (fin t n d) = refl
le_neg (fin s m e) nan = refl
le_neg (fin s m e) (inf true) = refl
le_neg (fin s m e) (inf false) = refl
le_neg (fin s m e) (fin t n d) =
    rw (below_swap s t (m * up e * down d) (n * up d * down e), level_swap s t (m * up e * down d) (n * up d * down e))

-- ---- the order, at numbers

-- a float that is not NaN and whose sign is clear
abbrev pub clear : Float → Bool
clear nan = false
clear (inf s) = not s
clear (fin s m e) = not s

-- a number above 0, with its sign set, is below each of them
pub neg_below : (n : ℕ) (d : ℤ) (x : Float) → T (clear x) → le (fin true (suc n) d) x ≡ true
unfolding le lt
neg_below n d nan p = absurd p
neg_below n d (inf true) p = absurd p
neg_below n d (inf false) p = refl
neg_below n d (fin true m e) p = absurd p
neg_below n d (fin false m e) p =
    let h : 0 < suc n * up d * down e = mul-pos (mul-pos (zero-lt-suc n) (up_pos d)) (down_pos e) in
    rw (lt-ltb 0 (suc n * up d * down e + m * up e * down d) (omega arith))

pub zero_below : (x : Float) → T (clear x) → T (le zero_float x)
unfolding le
zero_below nan p = absurd p
zero_below (inf true) p = absurd p
zero_below (inf false) p = tt
zero_below (fin true m e) p = absurd p
zero_below (fin false m e) p = le_of_values zero_float (fin false m e) 0 1 (m * up e) (down e) (zero-lt-suc 0) (down_pos e) (refl, refl) (refl, refl) (rw zero-mul zero-le)

-- a float with a clear sign that is at most b * 2 ^ k
or_split : (a b : Bool) → T (a || b) → T a ⊎ T b
or_split true b t = inl tt
or_split false b t = inr t

pub at_most : (b k m : ℕ) (e : ℤ) → T (le (fin false m e) (fin false b (pos k))) → m * up e ≤ b * 2 ^ k * down e
unfolding le lt eq
at_most b k m e t =
    let x = m * up e * 1 in
    let y = b * 2 ^ k * down e in
    elim (or_split (ltb x y) (eqb x y && true) t) [
      | inl u ↦ let l : x < y = ltb→lt x y u in rw mul-one at (le_of_lt l)
      | inr u ↦ let l : x ≡ y = eqb→eq x y (and_l (eqb x y) true u) in rw mul-one at (le_of_eq l)
    ]

-- ---- what a rounding gives has the sign that it is given

odd_clear : (d q k l : ℕ) → T (clear (odd d false q k l))
unfolding odd
odd_clear d zero k l = tt
odd_clear d (suc q) k l = tt

units_clear : (f : Format) (q k : ℕ) → T (clear (units f false q k))
unfolding units
units_clear f q k = go (ltb (q * 2 ^ k) (2 ^ (low f + suc (emax f))))
  where
    go : (b : Bool) → T (clear (cond b (odd (suc (prec f)) false q k (low f)) (inf false)))
    go true = odd_clear (suc (prec f)) q k (low f)
    go false = tt

pub round_clear : (f : Format) (a b : ℕ) → T (clear (round f false a b))
unfolding round
round_clear f a b = units_clear f _ _

-- ---- numbers that are floats exactly

pub float_0 : float 0 ≡ zero_float
unfolding round
float_0 = refl

pub float_60 : float 60 ≡ fin false 15 (pos 2)
unfolding round
float_60 = refl

pub float_100 : float 100 ≡ fin false 25 (pos 2)
unfolding round
float_100 = refl

pub float_1440 : float 1440 ≡ fin false 45 (pos 5)
unfolding round
float_1440 = refl

pub float-10⁹ : float (10 ^ 9) ≡ fin false 1953125 (pos 9)
unfolding round
float-10⁹ = refl

pub float-10¹³ : float (10 ^ 13) ≡ fin false 1220703125 (pos 13)
unfolding round
float-10¹³ = refl

pub float-10¹⁸ : float (10 ^ 18) ≡ fin false 3814697265625 (pos 18)
unfolding round
float-10¹⁸ = refl

-- ---- the order, through a bound whose sign is clear

or_pick : (a b : Bool) {P : Type 0} → T (a || b) → (T a → P) → (T b → P) → P
or_pick true b t p q = p tt
or_pick false b t p q = q t

-- the fractions behind a test
values : (m n : ℕ) (e d : ℤ) → T (le (fin false m e) (fin false n d)) → m * up e * down d ≤ n * up d * down e
unfolding le lt eq
values m n e d t =
    let a = m * up e * down d in
    let b = n * up d * down e in
    or_pick (ltb a b) (eqb a b && true) t (λ u. le_of_lt (ltb→lt a b u)) (λ u. le_of_eq (eqb→eq a b (and_l (eqb a b) true u)))

either : (a b : ℕ) → T (ltb 0 (a + b) || (eqb a b && (false || eqb a 0)))
either zero zero = tt
either zero (suc b) = rw (lt-ltb 0 (0 + suc b) (omega arith)) tt
either (suc a) b = rw (lt-ltb 0 (suc a + b) (omega arith)) tt

negative_low : (m n : ℕ) (e d : ℤ) → T (le (fin true m e) (fin false n d))
unfolding le lt eq
negative_low m n e d = either (m * up e * down d) (n * up d * down e)

no_factor : (n d : ℕ) → 0 < d → n * d ≡ 0 → n ≡ 0
no_factor zero d D h = refl
no_factor (suc n) d D h = let k : 0 < suc n * d = mul-pos (zero-lt-suc n) D in absurd (omega arith)

pub via : (x y z : Float) → T (clear y) → T (clear z) → T (le x y) → T (le y z) → T (le x z)
unfolding le lt eq
via nan y z p q a b = absurd a
via (inf true) y nan p q a b = absurd q
via (inf true) y (inf true) p q a b = absurd q
via (inf true) y (inf false) p q a b = tt
via (inf true) y (fin t n d) p q a b = tt
via (inf false) nan z p q a b = absurd p
via (inf false) (inf true) z p q a b = absurd p
via (inf false) (inf false) z p q a b = b
via (inf false) (fin t n d) z p q a b = absurd a
via (fin s m e) y nan p q a b = absurd q
via (fin s m e) y (inf true) p q a b = absurd q
via (fin s m e) y (inf false) p q a b = tt
via (fin s m e) y (fin true n d) p q a b = absurd q
via (fin true m e) y (fin false n d) p q a b = negative_low m n e d
via (fin false m e) nan (fin false n d) p q a b = absurd p
via (fin false m e) (inf true) (fin false n d) p q a b = absurd p
via (fin false m e) (inf false) (fin false n d) p q a b = absurd b
via (fin false m e) (fin true k g) (fin false n d) p q a b = absurd p
via (fin false m e) (fin false k g) (fin false n d) p q a b =
    le_of_values (fin false m e) (fin false n d) (m * up e) (down e) (n * up d) (down d) (down_pos e) (down_pos d) (refl, refl) (refl, refl)
    (through (m * up e) (k * up g) (n * up d) (down e) (down g) (down d) (down_pos g) (values m k e g a) (values k n g d b))

pub of_lt : (x y : Float) → T (lt x y) → T (le x y)
unfolding le
of_lt x y t = go (lt x y) (eq x y) t
  where
    go : (a b : Bool) → T a → T (a || b)
    go true b t = tt
    go false b t = absurd t

-- ---- a larger bound, above and below
pub up_to_lem : (x : Float) (m n : ℕ) → m ≤ n → T (le x (float m)) → T (le x (float n))
up_to_lem x m n h t =
    via x (float m) (float n) (round_clear binary64 m 1) (round_clear binary64 n 1) t
    (round_mono binary64 m 1 n 1 (zero-lt-suc 0) (zero-lt-suc 0) (mul-le-mul_right 1 h))

neg_neg : (x : Float) → neg (neg x) ≡ x
unfolding neg
neg_neg nan = refl
neg_neg (inf true) = refl
neg_neg (inf false) = refl
neg_neg (fin true m e) = refl
neg_neg (fin false m e) = refl

pub down_to : (x : Float) (m n : ℕ) → m ≤ n → T (le (neg (float m)) x) → T (le (neg (float n)) x)
down_to x m n h t =
    subst T (turn n) (up_to_lem (neg x) m n h (subst T (sym (turn m)) t))
  where
    turn : (k : ℕ) → le (neg x) (float k) ≡ le (neg (float k)) x
    turn k = sym (le_neg (float k) (neg x)) ∙ ap (λ (y : Float). le (neg (float k)) y) (neg_neg x)

-- what is not below a number that is not below 0 is not below any opposite
zero_high : (a b : ℕ) → b ≡ 0 → T (ltb b a || (eqb a b && true))
zero_high zero b h = rw (eq-eqb 0 b (sym h)) (go (ltb b 0))
  where
    go : (t : Bool) → T (t || true)
    go true = tt
    go false = tt
zero_high (suc a) b h = rw (lt-ltb b (suc a) (omega arith)) tt

neg_least : (z x : Float) → T (clear z) → T (le zero_float x) → T (le (neg z) x)
unfolding le lt eq neg
neg_least nan x p q = absurd p
neg_least (inf true) x p q = absurd p
neg_least (inf false) nan p q = absurd q
neg_least (inf false) (inf true) p q = absurd q
neg_least (inf false) (inf false) p q = tt
neg_least (inf false) (fin s m e) p q = tt
neg_least (fin true n d) x p q = absurd p
neg_least (fin false n d) nan p q = absurd q
neg_least (fin false n d) (inf true) p q = absurd q
neg_least (fin false n d) (inf false) p q = tt
neg_least (fin false n d) (fin false m e) p q = negative_low n m d e
neg_least (fin false n d) (fin true m e) p q =
    let h : 0 * 1 * down e ≡ m * up e * 1 = eqb→eq (0 * 1 * down e) (m * up e * 1) (and_l (eqb (0 * 1 * down e) (m * up e * 1)) (eqb (0 * 1 * down e) 0) q) in
    let k : m * up e ≡ 0 = omega arith in
    zero_high (n * up d * down e) (m * up e * down d) (ap (λ (i : ℕ). i * down d) k ∙ zero-mul (down d))

least : (y x : Float) → T (clear y) → T (le y x) → T (le zero_float x)
unfolding le lt eq
least nan x p q = absurd p
least (inf true) x p q = absurd p
least (inf false) nan p q = absurd q
least (inf false) (inf true) p q = absurd q
least (inf false) (inf false) p q = tt
least (inf false) (fin s m e) p q = absurd q
least (fin true n d) x p q = absurd p
least (fin false n d) nan p q = absurd q
least (fin false n d) (inf true) p q = absurd q
least (fin false n d) (inf false) p q = tt
least (fin false n d) (fin false m e) p q = zero_below (fin false m e) tt
least (fin false n d) (fin true m e) p q =
    let a = n * up d * down e in
    let b = m * up e * down d in
    let h : a ≡ b = eqb→eq a b (and_l (eqb a b) (eqb a 0) q) in
    let z : a ≡ 0 = eqb→eq a 0 (and_r (eqb a b) (eqb a 0) q) in
    let k : m * up e ≡ 0 = no_factor (m * up e) (down d) (down_pos d) (sym h ∙ z) in
    rw (zero-mul (down e), k) tt

pub from_zero : (x : Float) (lo n : ℕ) → T (le (float lo) x) → T (le (neg (float n)) x)
from_zero x lo n t = neg_least (float n) x (round_clear binary64 n 1) (least (float lo) x (round_clear binary64 lo 1) t)

-- above 0 is above any opposite
pub above_0 : (x : Float) (n : ℕ) → T (lt zero_float x) → T (le (neg (float n)) x)
above_0 x n t = from_zero x 0 n (subst (λ (y : Float). T (le y x)) (sym float_0) (of_lt zero_float x t))

abbrev pub most : Float
most = float (10 ^ 18)

-- ---- 100 times a float from -10 ^ 13 to 10 ^ 13

-- 100 times a fraction that is at most 10 ^ 13 rounds to at most 10 ^ 18
rounded : (m : ℕ) (e : ℤ) → T (le (fin false m e) (float (10 ^ 13))) → T (le (round binary64 false (m * up e * (25 * 4)) (down e * 1)) most)
rounded m e h =
    let k : m * up e ≤ 1220703125 * 8192 * down e = at_most 1220703125 13 m e (rw float-10¹³ at h) in
    round_mono binary64 (m * up e * (25 * 4)) (down e * 1) (10 ^ 18) 1 (mul-pos (down_pos e) (zero-lt-suc 0)) (zero-lt-suc 0) (omega arith)

above : (x : Float) → T (clear x) → le (neg most) x ≡ true
unfolding neg
above x p = rw float-10¹⁸ (neg_below 3814697265624 (pos 18) x p)

under : (x : Float) → T (clear x) → le (neg x) most ≡ true
unfolding neg
under x p = rw float-10¹⁸ (le_neg x (fin true 3814697265625 (pos 18)) ∙ neg_below 3814697265624 (pos 18) x p)

-- what lies within
pub record Within (y : Float) : Type 0 where
  pub low : T (le (neg most) y)
  pub high : T (le y most)

times_100 : (s : Bool) (m : ℕ) (e : ℤ) → mul binary64 (fin s m e) (float 100) ≡ round binary64 (unlike s false) (m * up e * (25 * 4)) (down e * 1)
unfolding mul
times_100 s m e = ap (λ (y : Float). mul binary64 (fin s m e) y) float_100

pub hundred : (x : Float) → T (le (neg (float (10 ^ 13))) x) → T (le x (float (10 ^ 13))) → Within (mul binary64 x (float 100))
unfolding le lt eq neg
hundred nan l h = absurd h
hundred (inf true) l h = absurd (rw float-10¹³ at l)
hundred (inf false) l h = absurd (rw float-10¹³ at h)
hundred (fin false m e) l h =
    let r = round binary64 false (m * up e * (25 * 4)) (down e * 1) in
    subst Within (sym (times_100 false m e)) (record { low = subst T (sym (above r (round_clear binary64 _ _))) tt; high = rounded m e h })
hundred (fin true m e) l h =
    let r = round binary64 false (m * up e * (25 * 4)) (down e * 1) in
    let k : T (le (fin false m e) (float (10 ^ 13))) = subst T (le_neg (float (10 ^ 13)) (fin false m e)) l in
    subst Within (sym (times_100 true m e ∙ round_neg binary64 (m * up e * (25 * 4)) (down e * 1)))
    (record { low = subst T (sym (le_neg most r)) (rounded m e k); high = subst T (sym (under r (round_clear binary64 _ _))) tt })

-- ---- the nearest whole number of a float from 0 to a bound

-- x is at least 0: its sign is clear, or it is a zero
pub at_least : (s : Bool) (m : ℕ) (e : ℤ) → T (le zero_float (fin s m e)) → (s ≡ false) ⊎ (m * up e * 2 ≡ 0)
unfolding le
at_least false m e t = inl refl
at_least true m e t =
    let h : 0 * 1 * down e ≡ m * up e * 1 = eqb→eq (0 * 1 * down e) (m * up e * 1) (and_l (eqb (0 * 1 * down e) (m * up e * 1)) (eqb (0 * 1 * down e) 0) t) in
    let k : m * up e ≡ 0 = sym (mul-one (m * up e)) ∙ sym h ∙ zero-mul (down e) in
    inr (ap (λ (n : ℕ). n * 2) k)

-- x is at most b * 2 ^ k
pub at_most_size : (b k : ℕ) (s : Bool) (m : ℕ) (e : ℤ) → T (le zero_float (fin s m e)) → T (le (fin s m e) (fin false b (pos k))) → m * up e ≤ b * 2 ^ k * down e
unfolding le
at_most_size b k false m e z t = at_most b k m e t
at_most_size b k true m e z t =
    elim (at_least true m e z) [
      | inl u ↦ let w : ◌≡◌ {A = ℕ} 0 1 = cc in absurd (omega arith)
      | inr u ↦ omega arith
    ]

twice_more : (b d : ℕ) → b * d * 2 + (d + d) ≡ (b + 1) * (d * 2)
twice_more b d = rw (add-mul b 1 (d * 2), mul_assoc b d 2) (omega arith)

few : (b n d : ℕ) → 0 < d → n ≤ b * d → (n * 2 + d) / (d * 2) ≤ b
few b n d D h =
    let q : (n * 2 + d) / (d * 2) < b + 1 = (div-lt_iff_lt-mul (mul-pos D (zero-lt-suc 1))).1 (omega (arith, twice_more b d)) in
    omega arith

pub bound : (b k : ℕ) (x : Float) → T (le zero_float x) → T (le x (fin false b (pos k))) → half_away x ≤ b * 2 ^ k
unfolding half_away le lt eq
bound b k nan l h = absurd l
bound b k (inf s) l h = omega arith
bound b k (fin s m e) l h = few (b * 2 ^ k) (m * up e) (down e) (down_pos e) (at_most_size b k s m e l h)

-- ---- a float that is not below 0: its sign is clear, or it is a zero
abbrev pub sound : Float → Bool
sound nan = false
sound (inf s) = not s
sound (fin s m e) = not s || eqb m 0

of_clear : (x : Float) → T (clear x) → T (sound x)
of_clear nan p = p
of_clear (inf s) p = p
of_clear (fin true m e) p = absurd p
of_clear (fin false m e) p = tt

no_digits : (n u d : ℕ) → 0 < u → 0 < d → n * u * d ≡ 0 → T (eqb n 0)
no_digits zero u d U D h = tt
no_digits (suc n) u d U D h = let k : 0 < suc n * u * d = mul-pos (mul-pos (zero-lt-suc n) U) D in absurd (omega arith)

of_zero : (x : Float) (s : Bool) → HasValue x s 0 1 → T (sound x)
of_zero nan s h = absurd h
of_zero (inf t) s h = absurd h
of_zero (fin false n g) s h = tt
of_zero (fin true n g) s h = no_digits n (up g) 1 (up_pos g) (zero-lt-suc 0) (h.1 ∙ zero-mul (down g))

round_zero : (s : Bool) (a c : ℕ) → 0 < c → a ≡ 0 → T (sound (round binary64 s a c))
round_zero s a c C h =
    of_zero (round binary64 s a c) s
    (subst (λ (x : Float). HasValue x s 0 1) (round_same binary64 s 0 1 a c (zero-lt-suc 0) C (zero-mul c ∙ sym (mul-one a ∙ h))) (round_whole binary64 s 0 (omega arith)))

round_false : (a c : ℕ) → T (sound (round binary64 false a c))
round_false a c = of_clear (round binary64 false a c) (round_clear binary64 a c)

zero_first : (m u d : ℕ) → T (eqb m 0) → m * u * d ≡ 0
zero_first zero u d t = rw (zero-mul u, zero-mul d)
zero_first (suc m) u d t = absurd (subst T (eqb-suc-zero m) t)

sum_right : (a b c : ℕ) → b ≡ 0 → T (sound (sum binary64 false a true b c))
unfolding sum
sum_right a b c h = rw (le-ltb a b (omega arith)) (round_false (a - b) c)

sum_left : (a b c : ℕ) → a ≡ 0 → T (sound (sum binary64 true a false b c))
unfolding sum
sum_left a b c h = rw (le-ltb b a (omega arith)) (go (ltb a b))
  where
    go : (t : Bool) → T (sound (cond t (round binary64 false (b - a) c) (round binary64 false (a - b) c)))
    go true = round_false (b - a) c
    go false = round_false (a - b) c

sum_both : (a b c : ℕ) → 0 < c → a ≡ 0 → b ≡ 0 → T (sound (sum binary64 true a true b c))
unfolding sum
sum_both a b c C h k = round_zero true (a + b) c C (omega arith)

sum_neither : (a b c : ℕ) → T (sound (sum binary64 false a false b c))
unfolding sum
sum_neither a b c = round_false (a + b) c

pub add_sound : (x y : Float) → T (sound x) → T (sound y) → T (sound (add binary64 x y))
unfolding add
add_sound nan y p q = absurd p
add_sound (inf true) y p q = absurd p
add_sound (inf false) nan p q = absurd q
add_sound (inf false) (inf true) p q = absurd q
add_sound (inf false) (inf false) p q = tt
add_sound (inf false) (fin t n d) p q = tt
add_sound (fin s m e) nan p q = absurd q
add_sound (fin s m e) (inf t) p q = q
add_sound (fin false m e) (fin false n d) p q = sum_neither (m * up e * down d) (n * up d * down e) (down e * down d)
add_sound (fin false m e) (fin true n d) p q = sum_right (m * up e * down d) (n * up d * down e) (down e * down d) (zero_first n (up d) (down e) q)
add_sound (fin true m e) (fin false n d) p q = sum_left (m * up e * down d) (n * up d * down e) (down e * down d) (zero_first m (up e) (down d) p)
add_sound (fin true m e) (fin true n d) p q =
    sum_both (m * up e * down d) (n * up d * down e) (down e * down d) (mul-pos (down_pos e) (down_pos d)) (zero_first m (up e) (down d) p) (zero_first n (up d) (down e) q)

pub mul_sound : (x : Float) (n : ℕ) (d : ℤ) → T (sound x) → T (sound (mul binary64 x (fin false (suc n) d)))
unfolding mul
mul_sound nan n d p = absurd p
mul_sound (inf true) n d p = absurd p
mul_sound (inf false) n d p = rw (eqb-suc-zero n) tt
mul_sound (fin false m e) n d p = round_false (m * up e * (suc n * up d)) (down e * down d)
mul_sound (fin true m e) n d p =
    round_zero true (m * up e * (suc n * up d)) (down e * down d) (mul-pos (down_pos e) (down_pos d)) (zero_first m (up e) (suc n * up d) p)

pub div_sound : (x : Float) (n : ℕ) (d : ℤ) → T (sound x) → T (sound (div binary64 x (fin false (suc n) d)))
unfolding div
div_sound nan n d p = absurd p
div_sound (inf true) n d p = absurd p
div_sound (inf false) n d p = tt
div_sound (fin false m e) n d p = rw (eqb-suc-zero n) (round_false (m * up e * down d) (suc n * up d * down e))
div_sound (fin true m e) n d p =
    rw (eqb-suc-zero n)
    (round_zero true (m * up e * down d) (suc n * up d * down e) (mul-pos (mul-pos (zero-lt-suc n) (up_pos d)) (down_pos e)) (zero_first m (up e) (down d) p))

-- as the test has it
pub of_le : (x : Float) → T (le zero_float x) → T (sound x)
unfolding le lt eq
of_le nan p = p
of_le (inf true) p = p
of_le (inf false) p = tt
of_le (fin false m e) p = tt
of_le (fin true m e) p =
    let h : 0 * 1 * down e ≡ m * up e * 1 = eqb→eq (0 * 1 * down e) (m * up e * 1) (and_l (eqb (0 * 1 * down e) (m * up e * 1)) (eqb (0 * 1 * down e) 0) p) in
    no_digits m (up e) 1 (up_pos e) (zero-lt-suc 0) (omega arith)

pub to_le : (x : Float) → T (sound x) → T (le zero_float x)
unfolding le lt eq
to_le nan p = p
to_le (inf true) p = p
to_le (inf false) p = tt
to_le (fin false m e) p = zero_below (fin false m e) tt
to_le (fin true zero e) p = rw (zero-mul (up e), zero-mul (down e)) tt
to_le (fin true (suc m) e) p = absurd (subst T (eqb-suc-zero m) p)
