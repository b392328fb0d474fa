-- When a number is long, and that what the code holds of its parts is judged as the parts themselves. Assumes nothing.
use Rattle.std.specs.Prelude.{if◌then◌else◌}
use Rattle.definition.specs.declared.Unread.TheVariants.{Long}
use Rattle.std.specs.Prelude.{Err, Ok}
use Rattle.std.proofs.Common.{◌≡◌, ℕ, zero, suc, ◌+◌, ◌*◌, ◌^◌, ◌<◌, ◌≤◌, min, Bool, true, false, ◌&&◌, ltb, leb, ◌⊎◌, sym, refl, ap, ◌∙◌, inl, inr, arith, ltb-true, lt-ltb, eq-eqb, ne_eqb, le-leb, leb-true}
use Rattle.std.specs.Prelude.{Some}
use lib.Ieee.{round, binary64}
use Rattle.definition.specs.Number.{short?, nearest, zero_float, magnitude}
use Rattle.laws.specs.Bools.{and_left, and_right}
use Rattle.text.specs.Parts.{le_or_lt}
use Rattle.number.specs.Number.{limit, decimal}

pub record Short (v u d : ℕ) : Type 0 where
  pub few : v < 10 ^ 15
  pub not_high : u ≤ 22 + d
  pub not_low : d ≤ 22 + u

is_short_lem : (v u d : ℕ) → ltb v (10 ^ 15) && (leb u (22 + d) && leb d (22 + u)) ≡ true → Short v u d
is_short_lem v u d h =
    let k = and_right (ltb v (10 ^ 15)) (leb u (22 + d) && leb d (22 + u)) h in
    record {
      few = ltb-true v (10 ^ 15) (and_left (ltb v (10 ^ 15)) (leb u (22 + d) && leb d (22 + u)) h);
      not_high = leb-true u (22 + d) (and_left (leb u (22 + d)) (leb d (22 + u)) k);
      not_low = leb-true d (22 + u) (and_right (leb u (22 + d)) (leb d (22 + u)) k);
    }

pub zero_is : (v u d : ℕ) → v ≡ 0 → magnitude (Some (decimal v u d)) ≡ Ok zero_float
unfolding short? nearest
zero_is v u d h = rw (eq-eqb v 0 h)

pub short_is : (v u d : ℕ) → (v ≡ 0 → ⊥) → Short v u d → magnitude (Some (decimal v u d)) ≡ Ok (round binary64 false (v * 10 ^ u) (10 ^ d))
unfolding short? nearest
short_is v u d n h = rw (ne_eqb v 0 n, lt-ltb v (10 ^ 15) h.few, le-leb u (22 + d) h.not_high, le-leb d (22 + u) h.not_low)

pub long_is : (v u d : ℕ) → (v ≡ 0 → ⊥) → (Short v u d → ⊥) → magnitude (Some (decimal v u d)) ≡ (Err Long)
unfolding short? nearest
long_is v u d n h =
    rw (ne_eqb v 0 n)
    (go (ltb v (10 ^ 15) && (leb u (22 + d) && leb d (22 + u))) (λ (e : ltb v (10 ^ 15) && (leb u (22 + d) && leb d (22 + u)) ≡ true). h (is_short_lem v u d e)))
  where
    go : (b : Bool) → (b ≡ true → ⊥) → (if b then Ok (round binary64 false (v * 10 ^ u) (10 ^ d)) else (Err Long)) ≡ (Err Long)
    go true k = absurd (k refl)
    go false k = refl

-- ---- two that are not short, both zero or neither
both_long : (v w u x d y : ℕ) → (v ≡ 0 → w ≡ 0) → (w ≡ 0 → v ≡ 0) → (Short v u d → ⊥) → (Short w x y → ⊥)
    → magnitude (Some (decimal v u d)) ≡ magnitude (Some (decimal w x y))
both_long zero w u x d y a b h k = zero_is 0 u d refl ∙ sym (zero_is w x y (a refl))
both_long (suc v) w u x d y a b h k = long_is (suc v) u d (λ z. omega arith) h ∙ sym (long_is w x y (λ z. omega (arith, b z)) k)

-- digits past the limit
pub digits_cap : (v u d : ℕ) → magnitude (Some (decimal (min v limit) u d)) ≡ magnitude (Some (decimal v u d))
digits_cap v u d = go (le_or_lt (10 ^ 15) v)
  where
    go : (10 ^ 15 ≤ v) ⊎ (v < 10 ^ 15) → magnitude (Some (decimal (min v limit) u d)) ≡ magnitude (Some (decimal v u d))
    go (inl h) = both_long (min v limit) v u u d d (λ z. omega arith) (λ z. omega arith) (λ s. omega (arith, s.few)) (λ s. omega (arith, s.few))
    go (inr h) = ap (λ (n : ℕ). magnitude (Some (decimal n u d))) (omega arith)

-- a power past the limit, where the places below the dot are those of a slice
pub up_cap : (v u d : ℕ) → d < 2 ^ 63 → magnitude (Some (decimal v (min u limit) d)) ≡ magnitude (Some (decimal v u d))
up_cap v u d b = go (le_or_lt limit u)
  where
    go : (limit ≤ u) ⊎ (u < limit) → magnitude (Some (decimal v (min u limit) d)) ≡ magnitude (Some (decimal v u d))
    go (inl h) = both_long v v (min u limit) u d d (λ z. z) (λ z. z) (λ s. omega (arith, s.not_high)) (λ s. omega (arith, s.not_high))
    go (inr h) = ap (λ (n : ℕ). magnitude (Some (decimal v n d))) (omega arith)

pub down_cap : (v p n : ℕ) → magnitude (Some (decimal v 0 (p + min n limit))) ≡ magnitude (Some (decimal v 0 (p + n)))
down_cap v p n = go (le_or_lt limit n)
  where
    go : (limit ≤ n) ⊎ (n < limit) → magnitude (Some (decimal v 0 (p + min n limit))) ≡ magnitude (Some (decimal v 0 (p + n)))
    go (inl h) = both_long v v 0 0 (p + min n limit) (p + n) (λ z. z) (λ z. z) (λ s. omega (arith, s.not_low)) (λ s. omega (arith, s.not_low))
    go (inr h) = ap (λ (k : ℕ). magnitude (Some (decimal v 0 (p + k)))) (omega arith)

-- as many as matter of the powers below the dot
pub few_same : (v p n : ℕ) → magnitude (Some (decimal v 0 (p + min n 23))) ≡ magnitude (Some (decimal v 0 (p + n)))
few_same v p n = go (le_or_lt n 23)
  where
    go : (n ≤ 23) ⊎ (23 < n) → magnitude (Some (decimal v 0 (p + min n 23))) ≡ magnitude (Some (decimal v 0 (p + n)))
    go (inl h) = ap (λ (k : ℕ). magnitude (Some (decimal v 0 (p + k)))) (omega arith)
    go (inr h) = both_long v v 0 0 (p + min n 23) (p + n) (λ z. z) (λ z. z) (λ s. omega (arith, s.not_low)) (λ s. omega (arith, s.not_low))
