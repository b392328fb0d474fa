-- What a float that has the value a / c gives when it is cut to a whole number; and the whole number nearest to a float, which is a float itself.
-- Assumes nothing.
use Rattle.std.proofs.Common.{◌≡◌, ℕ, zero, suc, ◌+◌, ◌-◌, ◌*◌, ◌/◌, ◌%◌, ◌^◌, ◌<◌, ◌≤◌, min, Bool, true, false, ◌&&◌, T, eqb, ltb, leb, ◌⊎◌, ℤ, pos, negsuc, sym, refl, ap, ◌∙◌, inl, inr, le_trans, le_of_eq, lt_of_lt_of_le, lt_of_le_of_lt, mul-le-mul_right, zero-lt-suc, mul_assoc, div-lt_iff_lt-mul, lt_of_mul-lt-mul_right, mul-lt-mul_of_pos_right, mul-pos, zero-mul, mul-one, mul_right_comm, mul_comm, subst, arith, lit<, ltb→lt, lt→ltb, pow_pos, pow-add}
use native.Mathlib.Nat.{zero-div}
use lib.Ieee.{Float, nan, inf, fin, binary64, up, down, round, le, lt, eq, fits, to_unsigned}
use lib.Ieee.Fits.{down_pos, and_l, and_r}
use lib.Ieee.Exact.{HasValue, round_exact}
use lib.Ieee.Nearest.{div_same}
use lib.Ieee.Back.{round_whole}
use Rattle.std.specs.Float.{float_round, round_with}
use Rattle.std.specs.declared.ops.RangeInclusive.{RangeInclusive}
use Rattle.std.specs.Prelude.{Some, None, cond, ◌||◌}
use Rattle.std.proofs.Common.{Less, Equal, Greater}
use Rattle.std.specs.Ordering.{is_le, is_some_and, partial_le, float_partial_cmp}
use Rattle.std.specs.Range.{range_inclusive_contains, range_inclusive_start, range_inclusive_end, range_inclusive_exhausted}
use Rattle.definition.specs.Number.{half_away, zero_float}
pub use Rattle.laws.specs.Floats.{at_least, at_most_size as at_most}

-- 10 ^ 18
abbrev pub cap : Float
cap = fin false 3814697265625 (pos 18)

-- ---- the whole part of a / c, by `truncating_f64_to_u64`
capped : (a c : ℕ) → a < c → min a (c - 1) ≡ a
capped a c h = omega arith

pub record Cut (y : Float) (w : ℕ) : Type 0 where
  pub low : T (lt (fin true 1 (pos 0)) y)
  pub high : T (lt y (fin false 1 (pos 64)))
  pub is : to_unsigned 64 y ≡ w

sum_pos : (a b : ℕ) → 0 < b → 0 < a + b
sum_pos a b h = omega arith

sum_pos' : (a b : ℕ) → 0 < a → 0 < a + b
sum_pos' a b h = omega arith

-- x / p = a / c, below 2 ^ 64
under : (x p a c : ℕ) → 0 < p → 0 < c → x * c ≡ a * p → a < 2 ^ 64 * c → x < 2 ^ 64 * p
under x p a c P C e h =
    lt_of_mul-lt-mul_right c
    (lt_of_le_of_lt (le_of_eq e) (lt_of_lt_of_le (mul-lt-mul_of_pos_right h P) (le_of_eq (mul_right_comm (2 ^ 64) c p))))

none : (x p a c : ℕ) → 0 < c → x * c ≡ a * p → a ≡ 0 → x ≡ 0
none zero p a c C e z = refl
none (suc x) p a c C e z =
    let k : 0 < suc x * c = mul-pos (zero-lt-suc x) C in
    let l : suc x * c ≡ 0 = e ∙ ap (λ (n : ℕ). n * p) z ∙ zero-mul p in
    omega arith

below_down : (x p : ℕ) → x ≡ 0 → 0 < p → x * 1 < 1 * 1 * p
below_down x p h P = omega arith

plain : (x p : ℕ) → x < 2 ^ 64 * p → x * 1 < 1 * 2 ^ 64 * p
plain x p h = omega arith

pub cut : (y : Float) (s : Bool) (a c : ℕ) → 0 < c → HasValue y s a c → (s ≡ false) ⊎ (a ≡ 0) → a < 2 ^ 64 * c → Cut y (a / c)
unfolding lt to_unsigned
cut nan s a c C h z l = absurd h
cut (inf t) s a c C h z l = absurd h
cut (fin false n g) s a c C h z l =
    let u : n * up g < 2 ^ 64 * down g = under (n * up g) (down g) a c (down_pos g) C h.1 l in
    record {
      low = lt→ltb 0 (1 * up (pos 0) * down g + n * up g * 1) (sum_pos' (1 * up (pos 0) * down g) (n * up g * 1) (mul-pos (zero-lt-suc 0) (down_pos g)));
      high = lt→ltb (n * up g * 1) (1 * 2 ^ 64 * down g) (plain (n * up g) (down g) u);
      is = capped (n * up g / down g) (2 ^ 64) ((div-lt_iff_lt-mul (down_pos g)).1 u) ∙ div_same (n * up g) (down g) a c (down_pos g) C h.1;
    }
cut (fin true n g) s a c C h (inl z) l = let no : true ≡ false = h.0 ∙ z in let w : ◌≡◌ {A = ℕ} 0 1 = cc in absurd (omega arith)
cut (fin true n g) s a c C h (inr z) l =
    let v : n * up g ≡ 0 = none (n * up g) (down g) a c C h.1 z in
    record {
      low = lt→ltb (n * up g * 1) (1 * up (pos 0) * down g) (below_down (n * up g) (down g) v (down_pos g));
      high = lt→ltb 0 (n * up g * 1 + 1 * 2 ^ 64 * down g) (sum_pos (n * up g * 1) (1 * 2 ^ 64 * down g) (mul-pos (pow_pos 64) (down_pos g)));
      is = sym (ap (λ (n : ℕ). n / c) z ∙ zero-div c);
    }

-- ---- the nearest whole number

-- `contains` at a range of floats
orders : (a x : Float) → partial_le float_partial_cmp a x ≡ le a x
unfolding le
orders a x = by (lt a x) (eq a x) (lt x a)
  where
    by : (l e g : Bool) → is_some_and is_le (cond l (Some Less) (cond e (Some Equal) (cond g (Some Greater) None))) ≡ (l || e)
    by true e g = refl
    by false true g = refl
    by false false true = refl
    by false false false = refl

pub contained : (x : Float) {a b : Float} {s : RangeInclusive Float} → range_inclusive_start s ≡ a → range_inclusive_end s ≡ b → range_inclusive_exhausted s ≡ false
    → range_inclusive_contains float_partial_cmp s x ≡ (le a x && le x b)
contained x {a} {b} h i j = rw (h, i, j) (λ k. orders a x k && orders x b k)

-- a float of the format has few digits
small : (s : Bool) (m : ℕ) (e : ℤ) → T (fits binary64 (fin s m e)) → m < 2 ^ 53
unfolding fits
small s zero e t = pow_pos 53
small s (suc m) e t =
    let a = eqb (suc m % 2) 1 in
    let b = ltb (suc m) (2 ^ 53) in
    let d = leb (down e) (2 ^ 1074) in
    let f = ltb (suc m * up e) (2 ^ 1024 * down e) in
    ltb→lt (suc m) (2 ^ 53) (and_r a b (and_l (a && b) d (and_l (a && b && d) f t)))

-- it is small: the value itself, or the float has few digits
half_whole : (n : ℕ) → (n * 2 + 1) / 2 ≡ n
half_whole n = omega arith

half_few : (m d : ℕ) → m < 2 ^ 53 → 0 < d → (m * 1 * 2 + d) / (d * 2) ≤ 2 ^ 53
half_few m d h D =
    let l : (m * 1 * 2 + d) / (d * 2) < 2 ^ 53 + 1 = (div-lt_iff_lt-mul (mul-pos D (zero-lt-suc 1))).1 (omega arith) in
    omega arith

half_most : (n d : ℕ) → 0 < d → n ≤ 1000000000000000000 * d → (n * 2 + d) / (d * 2) < 2 ^ 64
half_most n d D h = (div-lt_iff_lt-mul (mul-pos D (zero-lt-suc 1))).1 (omega arith)

half_none : (n d : ℕ) → 0 < d → n * 2 ≡ 0 → (n * 2 + d) / (d * 2) ≡ 0
half_none n d D h =
    let q : (n * 2 + d) / (d * 2) < 1 = (div-lt_iff_lt-mul (mul-pos D (zero-lt-suc 1))).1 (omega arith) in
    omega arith

-- a whole number in the smallest values
module _ (m k : ℕ) where
  in_steps : m * 2 ^ k * 2 ^ 1074 ≡ m * 2 ^ (k + 1074)
  in_steps = mul_assoc m (2 ^ k) (2 ^ 1074) ∙ ap (λ (n : ℕ). m * n) (sym (pow-add 2 k 1074))

  no_overflow : m * 2 ^ k ≤ 1000000000000000000 → m * 2 ^ (k + 1074) < 2 ^ 2098
  no_overflow h =
      lt_of_le_of_lt (le_trans (le_of_eq (sym in_steps)) (mul-le-mul_right (2 ^ 1074) h)) (lit< {m = 1000000000000000000 * 2 ^ 1074} tt)

abbrev half : ℕ → ℤ → ℕ
half m e = (m * up e * 2 + down e) / (down e * 2)

rounds : (s : Bool) (m : ℕ) (e : ℤ) → T (fits binary64 (fin s m e)) → m * up e ≤ 1000000000000000000 * down e → HasValue (round binary64 s (half m e) 1) s (half m e) 1
rounds s m (pos k) f h =
    let n = m * 2 ^ k in
    let a : half m (pos k) ≡ n = half_whole n in
    rw a (round_exact binary64 s n 1 m (k + 1074) (zero-lt-suc 0) (small s m (pos k) f) (no_overflow m k (omega (arith, h))) (in_steps m k ∙ sym (mul-one (m * 2 ^ (k + 1074)))))
rounds s m (negsuc k) f h = round_whole binary64 s (half m (negsuc k)) (half_few m (2 ^ suc k) (small s m (negsuc k) f) (pow_pos (suc k)))

round_half : (s : Bool) (m : ℕ) (e : ℤ) → float_round binary64 (fin s m e) ≡ round binary64 s (half m e) 1
unfolding round_with
round_half true m e = rw (mul_comm 2 (m * up e), mul_comm 2 (down e))
round_half false m e = rw (mul_comm 2 (m * up e), mul_comm 2 (down e))

no_sign : (s : Bool) (m : ℕ) (e : ℤ) → T (le zero_float (fin s m e)) → (s ≡ false) ⊎ (half m e ≡ 0)
no_sign s m e z =
    elim (at_least s m e z) [
      | inl h ↦ inl h
      | inr h ↦ inr (half_none (m * up e) (down e) (down_pos e) h)
    ]

-- the nearest whole number, as the code works it out
pub rounded : (x : Float) → T (fits binary64 x) → T (le zero_float x) → T (le x cap) → Cut (float_round binary64 x) (half_away x)
unfolding half_away le
rounded nan f z b = absurd z
rounded (inf true) f z b = absurd z
rounded (inf false) f z b = absurd b
rounded (fin s m e) f z b =
    let l : m * up e ≤ 1000000000000000000 * down e = at_most 3814697265625 18 s m e z b in
    let c : Cut (round binary64 s (half m e) 1) (half m e / 1)
    = cut (round binary64 s (half m e) 1) s (half m e) 1 (zero-lt-suc 0) (rounds s m e f l) (no_sign s m e z) (half_most (m * up e) (down e) (down_pos e) l) in
    rw (round_half s m e) (subst (λ (n : ℕ). Cut (round binary64 s (half m e) 1) n) (omega arith) c)
