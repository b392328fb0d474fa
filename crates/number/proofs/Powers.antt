-- Powers of ten as products: as floats they are exact up to the 22nd, as 5 ^ 22 is below 2 ^ 53. Assumes nothing.
use Rattle.std.proofs.Common.{ℕ, ◌+◌, ◌*◌, ◌^◌, ◌<◌, ◌≤◌, false, sym, ap, ◌∙◌, subst, lt_of_lt_of_le, lt_of_le_of_lt, zero-lt-suc, mul_assoc, mul-one, arith, lit<, pow_mono, pow-add, shl_lt}
use Rattle.std.proofs.lemmas.Nat.{mul-pow}
use native.Mathlib.Nat.{pow-le-pow_right}
use lib.Ieee.{Float, binary64, mul, round}
use lib.Ieee.Exact.{HasValue, round_exact}
use Rattle.number.proofs.Values.{mul_of}

exact : (k : ℕ) → k ≤ 22 → HasValue (round binary64 false (10 ^ k) 1) false (10 ^ k) 1
exact k h =
    let room : 53 + (k + 1074) ≤ 2098 = omega arith in
    let q : 5 ^ k < 2 ^ 53 = lt_of_le_of_lt (pow-le-pow_right (zero-lt-suc 4) h) (lit< {m = 5 ^ 22} tt) in
    round_exact binary64 false (10 ^ k) 1 (5 ^ k) (k + 1074) (zero-lt-suc 0) q (lt_of_lt_of_le (shl_lt 53 (k + 1074) q) (pow_mono room))
    (ap (λ (n : ℕ). n * 2 ^ 1074) (mul-pow 5 2 k) ∙ mul_assoc (5 ^ k) (2 ^ k) (2 ^ 1074) ∙ ap (λ (n : ℕ). 5 ^ k * n) (sym (pow-add 2 k 1074)) ∙ sym (mul-one (5 ^ k * 2 ^ (k + 1074))))

-- 10 ^ a times 10
pub times_ten : (x ten : Float) (a : ℕ) → a + 1 ≤ 22 → HasValue x false (10 ^ a) 1 → HasValue ten false 10 1 → HasValue (mul binary64 x ten) false (10 ^ (a + 1)) 1
times_ten x ten a h v w =
    rw (mul_of binary64 x ten false false (10 ^ a) 1 10 1 (zero-lt-suc 0) (zero-lt-suc 0) v w)
    (subst (λ (n : ℕ). HasValue (round binary64 false n 1) false (10 ^ (a + 1)) 1) (pow-add 10 a 1) (exact (a + 1) h))
