-- Laws of floats that are whole numbers: sums and products are those of the numbers, rounded once; up to 2 ^ 53 they are exact, and a float is
-- whole exactly where it equals the whole number that is nearest (eq-whole). Assumes nothing.
use Rattle.std.specs.Prelude.{◌≡◌, refl, Bool, true, false, ℕ, ◌+◌, ◌*◌, ◌%◌, ◌^◌, ◌≤◌, T, Float}
use Rattle.std.proofs.Common.{sym, ap, ◌∙◌, true≢false, mul-pos, mul-one, zero-lt-suc, arith, eq-eqb}
use Rattle.std.proofs.Math.Nat.{mul-mod_left}
use Rattle.std.specs.Float.{nan, inf, fin, binary64}
use Rattle.std.specs.Float.Ieee.{up, down, add, sum, mul, le}
use Rattle.std.specs.Float.Ieee.Fits.{down_pos}
use Rattle.std.specs.Float.Ieee.Exact.{HasValue}
use Rattle.std.specs.Float.Ieee.Back.{round_whole}
use Rattle.std.specs.Float.Ieee.Scale.{round_same}
use Rattle.std.specs.Float.Ieee.Order.{le_of_values}
use Rattle.definition.specs.Number.{half_away, is_whole, float}
use Rattle.laws.specs.Wholes.{no_rest}
pub use Rattle.laws.specs.Wholes.{eq_whole}

-- the float is the whole number
abbrev pub IsWhole : Float → ℕ → Type 0
IsWhole x n = HasValue x false n 1

pub float_whole : (n : ℕ) → n ≤ 2 ^ 53 → IsWhole (float n) n
float_whole n h = round_whole binary64 false n h

pub le_whole : (x y : Float) (a b : ℕ) → IsWhole x a → IsWhole y b → a ≤ b → le x y ≡ true
le_whole x y a b h k l = is (le x y) (le_of_values x y a 1 b 1 (zero-lt-suc 0) (zero-lt-suc 0) h k (omega arith))
  where
    is : (t : Bool) → T t → t ≡ true
    is true p = refl
    is false p = absurd p

products : (x y p q a b : ℕ) → x * 1 ≡ a * p → y * 1 ≡ b * q → x * y * 1 ≡ a * b * (p * q)
products x y p q a b h k = omega (arith, ap (λ (z : ℕ). z * y) h, ap (λ (z : ℕ). a * p * z) k)

sums : (x y p q a b : ℕ) → x * 1 ≡ a * p → y * 1 ≡ b * q → (x * q + y * p) * 1 ≡ (a + b) * (p * q)
sums x y p q a b h k = omega (arith, ap (λ (z : ℕ). z * q) h, ap (λ (z : ℕ). z * p) k)

pub mul_whole : (x y : Float) (a b : ℕ) → IsWhole x a → IsWhole y b → mul binary64 x y ≡ float (a * b)
unfolding mul
mul_whole nan y a b h k = absurd h
mul_whole (inf s) y a b h k = absurd h
mul_whole (fin s m e) nan a b h k = absurd k
mul_whole (fin s m e) (inf t) a b h k = absurd k
mul_whole (fin true m e) (fin t n g) a b h k = absurd (true≢false h.0)
mul_whole (fin false m e) (fin true n g) a b h k = absurd (true≢false k.0)
mul_whole (fin false m e) (fin false n g) a b h k =
    round_same binary64 false (m * up e * (n * up g)) (down e * down g) (a * b) 1 (mul-pos (down_pos e) (down_pos g)) (zero-lt-suc 0)
    (products (m * up e) (n * up g) (down e) (down g) a b h.1 k.1)

pub add_whole : (x y : Float) (a b : ℕ) → IsWhole x a → IsWhole y b → add binary64 x y ≡ float (a + b)
unfolding add sum
add_whole nan y a b h k = absurd h
add_whole (inf s) y a b h k = absurd h
add_whole (fin s m e) nan a b h k = absurd k
add_whole (fin s m e) (inf t) a b h k = absurd k
add_whole (fin true m e) (fin t n g) a b h k = absurd (true≢false h.0)
add_whole (fin false m e) (fin true n g) a b h k = absurd (true≢false k.0)
add_whole (fin false m e) (fin false n g) a b h k =
    round_same binary64 false (m * up e * down g + n * up g * down e) (down e * down g) (a + b) 1 (mul-pos (down_pos e) (down_pos g)) (zero-lt-suc 0)
    (sums (m * up e) (n * up g) (down e) (down g) a b h.1 k.1)

pub half_away_whole : (x : Float) (n : ℕ) → IsWhole x n → half_away x ≡ n
unfolding half_away
half_away_whole nan n h = absurd h
half_away_whole (inf s) n h = absurd h
half_away_whole (fin s m e) n h = no_rest (m * up e) n (down e) (down_pos e) (sym (mul-one (m * up e)) ∙ h.1)

pub is_whole_whole : (x : Float) (n : ℕ) → IsWhole x n → is_whole x ≡ true
unfolding is_whole
is_whole_whole nan n h = absurd h
is_whole_whole (inf s) n h = absurd h
is_whole_whole (fin s m e) n h =
    eq-eqb (m * up e % down e) 0 (ap (λ (a : ℕ). a % down e) (sym (mul-one (m * up e)) ∙ h.1) ∙ mul-mod_left n (down e))
