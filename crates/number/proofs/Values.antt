-- A product and a quotient of floats whose values are known fractions: the fraction's product or quotient, rounded once. Zeros and signs included.
-- Assumes nothing.
use Rattle.std.proofs.Common.{◌≡◌, ℕ, zero, suc, ◌*◌, ◌^◌, ◌<◌, Bool, false, eqb, sym, ap, ◌∙◌, subst, not-suc-le-zero, lt_irrefl, zero-lt-suc, mul_assoc, mul_comm, mul-pos, zero-mul, mul_left_comm}
use native.Mathlib.Nat.{mul-mul-mul_comm, one-le-pow}
use lib.Dec.{eqb-suc-zero}
use lib.Ieee.{Float, nan, inf, fin, Format, up, down, unlike, round, mul, div}
use lib.Ieee.Fits.{up_pos, down_pos}
use lib.Ieee.Exact.{HasValue}
use lib.Ieee.Scale.{round_same}

-- (x * y) / (p * q) and (a * b) / (c * d), with x / p = a / c and y / q = b / d
cross : (x y p q a b c d : ℕ) → x * c ≡ a * p → y * d ≡ b * q → x * y * (c * d) ≡ a * b * (p * q)
cross x y p q a b c d h k =
    mul-mul-mul_comm x y c d ∙ ap (λ (z : ℕ). z * (y * d)) h ∙ ap (λ (z : ℕ). a * p * z) k ∙ mul-mul-mul_comm a p b q

over : (x y p q a b c d : ℕ) → x * c ≡ a * p → y * d ≡ b * q → x * q * (b * c) ≡ a * d * (y * p)
over x y p q a b c d h k =
    let i : x * q * (b * c) ≡ x * c * (b * q) = simp (mul_assoc, mul_comm, mul_left_comm) in
    let j : a * d * (y * p) ≡ a * p * (y * d) = simp (mul_assoc, mul_comm, mul_left_comm) in
    i ∙ ap (λ (z : ℕ). z * (b * q)) h ∙ ap (λ (z : ℕ). a * p * z) (sym k) ∙ sym j

pub mul_of : (f : Format) (x y : Float) (s t : Bool) (a c b d : ℕ) → 0 < c → 0 < d → HasValue x s a c → HasValue y t b d → mul f x y ≡ round f (unlike s t) (a * b) (c * d)
unfolding mul
mul_of f nan y s t a c b d C D h k = absurd h
mul_of f (inf u) y s t a c b d C D h k = absurd h
mul_of f (fin u m e) nan s t a c b d C D h k = absurd k
mul_of f (fin u m e) (inf v) s t a c b d C D h k = absurd k
mul_of f (fin u m e) (fin v n g) s t a c b d C D h k =
    ap (λ (w : Bool). round f (unlike w v) (m * up e * (n * up g)) (down e * down g)) h.0
    ∙ ap (λ (w : Bool). round f (unlike s w) (m * up e * (n * up g)) (down e * down g)) k.0
    ∙ round_same f (unlike s t) (m * up e * (n * up g)) (down e * down g) (a * b) (c * d) (mul-pos (down_pos e) (down_pos g)) (mul-pos C D)
    (cross (m * up e) (n * up g) (down e) (down g) a b c d h.1 k.1)

not_zero : (n : ℕ) → 0 < n → eqb n 0 ≡ false
not_zero zero h = absurd (not-suc-le-zero h)
not_zero (suc n) h = eqb-suc-zero n

-- a divisor b / d above 0 has an n above 0
numerator : (n u d b q : ℕ) → 0 < b → 0 < q → n * u * d ≡ b * q → 0 < n
numerator zero u d b q B Q h = absurd (lt_irrefl 0 (subst (λ (z : ℕ). 0 < z) (sym h ∙ ap (λ (z : ℕ). z * d) (zero-mul u) ∙ zero-mul d) (mul-pos B Q)))
numerator (suc n) u d b q B Q h = zero-lt-suc n

pub div_of : (f : Format) (x y : Float) (s t : Bool) (a c b d : ℕ) → 0 < c → 0 < d → 0 < b → HasValue x s a c → HasValue y t b d → div f x y ≡ round f (unlike s t) (a * d) (b * c)
unfolding div
div_of f nan y s t a c b d C D B h k = absurd h
div_of f (inf u) y s t a c b d C D B h k = absurd h
div_of f (fin u m e) nan s t a c b d C D B h k = absurd k
div_of f (fin u m e) (inf v) s t a c b d C D B h k = absurd k
div_of f (fin u m e) (fin v n g) s t a c b d C D B h k =
    let N : 0 < n = numerator n (up g) d b (down g) B (down_pos g) k.1 in
    rw (not_zero n N)
    (ap (λ (w : Bool). round f (unlike w v) (m * up e * down g) (n * up g * down e)) h.0
    ∙ ap (λ (w : Bool). round f (unlike s w) (m * up e * down g) (n * up g * down e)) k.0
    ∙ round_same f (unlike s t) (m * up e * down g) (n * up g * down e) (a * d) (b * c) (mul-pos (mul-pos N (up_pos g)) (down_pos e)) (mul-pos B C)
    (over (m * up e) (n * up g) (down e) (down g) a b c d h.1 k.1))

pub ten_pos : (k : ℕ) → 0 < 10 ^ k
ten_pos k = one-le-pow k 10 (zero-lt-suc 9)
