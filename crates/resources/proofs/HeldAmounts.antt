-- Hundredths of units, prices and money, by the tests that the code makes, and the most that they are. Assumes nothing.
use Prim.Native.Nat.{◌^◌, ◌≤◌}
use native.Mathlib.Omega.{arith}
use mathlib.Core.Path.{◌≡◌, refl, sym, ap, ◌∙◌, subst}
use mathlib.Core.Bool.{Bool, true, false, ◌&&◌}
use Rattle.std.specs.Prelude.{Option, Some, None}
use lib.IntN.{ℤ, pos, nat_abs, neg_ℤ, +ℤ_idl}
use lib.Ieee.{Float, fin, binary64, round, neg, le, lt, mul}
use lib.Ieee.Fits.{and_l, and_r}
use Rattle.definition.specs.Base.{◌or◌, ◌>>=◌, when}
use Rattle.definition.specs.Number.{float, zero_float}
use Rattle.definition.specs.Resource.{units_from, price_from, money_from, unless_left}
use Rattle.number.specs.Floats.{float-10¹³}
use Rattle.number.specs.Whole.{half_within, whole_within}
use Rattle.number.specs.Order.{of_lt, from_zero, up_to_lem}
use Rattle.number.proofs.Rounded.{half_small, is_below, not_below_lem}
use Rattle.fields.specs.Hundredths.{float_0, hundredths_kept, above_0, size_sign}
use Rattle.resources.specs.Assignment.{Small, Means}
use Rattle.resources.specs.declared.assignment.Amounts.{Amounts}

float-10⁶ : float 1000000 ≡ fin false 15625 (pos 6)
unfolding round
float-10⁶ = refl

-- a number × 100, as the code works it out
abbrev times100 : Float → ℤ
times100 x = whole_within (mul binary64 x (float 100))

pub units_is : (u : Float) → when (le zero_float u && le u (fin false 15625 (pos 6))) (times100 u) ≡ units_from u
units_is u =
    let low = le (float 0) u in
    let high = le u (float 1000000) in
    hundredths_kept u (λ i. le (sym float_0 i) u && le u (sym float-10⁶ i))
    (λ t. (from_zero u 0 (10 ^ 13) (and_l low high t), up_to_lem u 1000000 (10 ^ 13) (omega arith) (and_r low high t)))

pub price_is : (p : Float) → when (lt zero_float p && lt p (fin false 1220703125 (pos 13))) (times100 p) ≡ price_from p
price_is p =
    let low = lt zero_float p in
    let high = lt p (float (10 ^ 13)) in
    hundredths_kept p (λ i. low && lt p (sym float-10¹³ i)) (λ t. (above_0 p (10 ^ 13) (and_l low high t), of_lt p (float (10 ^ 13)) (and_r low high t)))

abbrev money? : Float → Bool
money? m = lt (neg (fin false 1220703125 (pos 13))) m && lt m (fin false 1220703125 (pos 13))

pub money_is : (m : Float) → when (money? m) (times100 m) ≡ money_from m
money_is m =
    let low = lt (neg (float (10 ^ 13))) m in
    let high = lt m (float (10 ^ 13)) in
    hundredths_kept m (λ i. lt (neg (sym float-10¹³ i)) m && lt m (sym float-10¹³ i))
    (λ t. (of_lt (neg (float (10 ^ 13))) m (and_l low high t), of_lt m (float (10 ^ 13)) (and_r low high t)))

-- ---- the most

whole_most : (y : Float) → nat_abs (whole_within y) ≤ 10 ^ 18
whole_most y = by (lt y zero_float) refl
  where
    by : (t : Bool) → lt y zero_float ≡ t → nat_abs (whole_within y) ≤ 10 ^ 18
    by true e = subst (λ (z : ℤ). nat_abs z ≤ 10 ^ 18) (is_below y e) (rw (+ℤ_idl (neg_ℤ (pos (half_within (neg y)))), size_sign true (half_within (neg y))) (half_small (neg y)))
    by false e = subst (λ (z : ℤ). nat_abs z ≤ 10 ^ 18) (not_below_lem y e) (half_small y)

small_when : (t : Bool) (y : Float) → Small (when t (whole_within y))
small_when true y = whole_most y
small_when false y = omega arith

small_money : (m : Float) → Small (money_from m)
small_money m = subst (λ (o : Option ℤ). Small o) (money_is m) (small_when (money? m) (mul binary64 m (float 100)))

pub small_if_said : (o : Option Float) {r : Option ℤ} → r ≡ (o >>= money_from) → Small r
small_if_said None e = rw e (omega arith)
small_if_said (Some m) e = rw e (small_money m)

pub means_as : {r : Amounts} {o₁ o₂ o₃ p₁ p₂ p₃ : Option ℤ} → o₁ ≡ p₁ → o₂ ≡ p₂ → o₃ ≡ p₃ → Means r o₁ o₂ o₃ → Means r p₁ p₂ p₃
means_as e₁ e₂ e₃ m = record {
  planned_is = m.planned_is ∙ ap (λ (o : Option ℤ). o or pos 0) e₁;
  actual_is = m.actual_is ∙ ap (λ (o : Option ℤ). o or pos 0) e₂;
  remaining_is = m.remaining_is ∙ (λ i. unless_left (e₁ i or pos 0) (e₂ i or pos 0) (e₃ i));
}
