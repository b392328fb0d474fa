-- A float that is not below 0 is whole exactly where it equals the whole number that is nearest to it. Assumes nothing.
use Rattle.std.specs.Prelude.{◌≡◌, refl, ◌⊎◌, Bool, true, false, ◌&&◌, ◌||◌, ℕ, zero, suc, ◌+◌, ◌*◌, ◌/◌, ◌%◌, ◌^◌, ◌≤◌, ◌<◌, T, eqb, ℤ, Float}
use Rattle.std.proofs.Common.{sym, ap, ◌∙◌, inl, inr, true≢false, mul_right_comm, arith, eq-eqb, ne_eqb, eqb-true}
use Rattle.std.specs.Bool.{beq}
use Rattle.std.proofs.Math.Nat.{mul-mod_left, div-add-mod, div-eq_of_lt-le, eq_of_mul-eq-mul_right}
use Rattle.std.proofs.lemmas.Bool.{eqb-false}
use Rattle.std.proofs.Math.Dec.{eqb-suc-zero}
use Rattle.std.specs.Float.{nan, inf, fin, binary64}
use Rattle.std.specs.Float.Ieee.{up, down, le, eq}
use Rattle.std.specs.Float.Ieee.Fits.{down_pos}
use Rattle.std.specs.Float.Ieee.Exact.{HasValue}
use Rattle.std.specs.Float.Ieee.Back.{round_whole}
use Rattle.definition.specs.Number.{zero_float, float, half_away, is_whole}
use Rattle.laws.specs.Floats.{at_least}

-- a / d with nothing over is the whole number that is nearest to it
pub no_rest : (a n d : ℕ) → 0 < d → a ≡ n * d → (a * 2 + d) / (d * 2) ≡ n
no_rest a n d D e = div-eq_of_lt-le (d * 2) (omega arith) (omega arith)

-- a / d is whole exactly where it is the nearest whole number
nearest_whole_lem : (a d : ℕ) → 0 < d → eqb a ((a * 2 + d) / (d * 2) * d) ≡ eqb (a % d) 0
nearest_whole_lem a d D = by (a % d) refl
  where
    n : ℕ
    n = (a * 2 + d) / (d * 2)

    by : (r : ℕ) → a % d ≡ r → eqb a (n * d) ≡ eqb r 0
    by zero e =
        let h : a ≡ a / d * d = omega (arith, e, div-add-mod a d) in
        eq-eqb a (n * d) (h ∙ ap (λ (q : ℕ). q * d) (sym (no_rest a (a / d) d D h)))
    by (suc r) e = ne_eqb a (n * d) (λ h. omega (arith, sym e ∙ ap (λ (x : ℕ). x % d) h ∙ mul-mod_left n d)) ∙ sym (eqb-suc-zero r)

cancel : (a b g : ℕ) → 0 < g → eqb (a * g) (b * g) ≡ eqb a b
cancel a b g G = by (eqb a b) refl
  where
    by : (t : Bool) → eqb a b ≡ t → eqb (a * g) (b * g) ≡ t
    by true e = eq-eqb (a * g) (b * g) (ap (λ (x : ℕ). x * g) (eqb-true a b e))
    by false e = ne_eqb (a * g) (b * g) (λ h. eqb-false a b e (eq_of_mul-eq-mul_right g G a b h))

no_sign : (s : Bool) (a g : ℕ) → (s ≡ false) ⊎ (a * 2 ≡ 0) → (beq s false || eqb (a * g) 0) ≡ true
no_sign false a g h = refl
no_sign true a g (inl h) = absurd (true≢false h)
no_sign true zero g (inr h) = eq-eqb (0 * g) 0 (omega arith)
no_sign true (suc a) g (inr h) = absurd (omega arith)

both : (t u : Bool) → u ≡ true → (t && u) ≡ t
both true u h = h
both false u h = refl

-- a float and a whole number
equal : (s : Bool) (m : ℕ) (e : ℤ) (n : ℕ) (y : Float) → (s ≡ false) ⊎ (m * up e * 2 ≡ 0) → HasValue y false n 1 → eq (fin s m e) y ≡ eqb (m * up e) (n * down e)
unfolding eq
equal s m e n nan h v = absurd v
equal s m e n (inf t) h v = absurd v
equal s m e n (fin true k g) h v = absurd (true≢false v.0)
equal s m e n (fin false k g) h v =
    both (eqb (m * up e * down g) (k * up g * down e)) (beq s false || eqb (m * up e * down g) 0) (no_sign s (m * up e) (down g) h)
    ∙ ap (λ (x : ℕ). eqb (m * up e * down g) (x * down e)) (omega (arith, v.1))
    ∙ ap (λ (x : ℕ). eqb (m * up e * down g) x) (mul_right_comm n (down g) (down e))
    ∙ cancel (m * up e) (n * down e) (down g) (down_pos g)

nothing : (y : Float) → eq nan y ≡ false
unfolding eq
nothing y = refl

infinite : (s : Bool) (n : ℕ) (y : Float) → HasValue y false n 1 → eq (inf s) y ≡ false
unfolding eq
infinite s n nan v = absurd v
infinite s n (inf t) v = absurd v
infinite s n (fin t k g) v = refl

pub eq_whole : (x : Float) → T (le zero_float x) → (n : ℕ) → n ≡ half_away x → n ≤ 2 ^ 53 → eq x (float n) ≡ is_whole x
unfolding half_away is_whole
eq_whole x z n i l = by x z i (round_whole binary64 false n l)
  where
    by : (x : Float) → T (le zero_float x) → n ≡ half_away x → HasValue (float n) false n 1 → eq x (float n) ≡ is_whole x
    by nan z i v = nothing (float n)
    by (inf s) z i v = infinite s n (float n) v
    by (fin s m e) z i v =
        equal s m e n (float n) (at_least s m e z) v
        ∙ ap (λ (k : ℕ). eqb (m * up e) (k * down e)) i
        ∙ nearest_whole_lem (m * up e) (down e) (down_pos e)
