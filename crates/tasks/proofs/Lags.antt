-- A lag in each format, by the machine's numbers. Assumes nothing.
use Prim.Native.Nat.{ℕ, zero, suc, ◌*◌, ◌/◌, ◌^◌, ◌<◌, min}
use native.Mathlib.Omega.{arith}
use mathlib.Core.Path.{◌≡◌, refl, sym, ap, ◌∙◌}
use mathlib.Core.Bool.{Bool, true, false, cond}
use Rattle.std.specs.Prelude.{Some, None}
use lib.Dec.{ltb}
use lib.IntN.{ℤ, pos, negsuc, neg_ℤ, ◌*ℤ◌}
use lib.Signed.{quot_z}
use borrow.Author.Tests.{ltb-true, ltb-false}
use mir.Syntax.{w64}
use mir.Val.{to_z, of_z, SFits}
use mir.ValLaws.{to_z-of_z}
use Rattle.std.specs.Int.{int_max, int_min}
use Rattle.definition.specs.Task.{percent_format, elapsed_format}
use Rattle.definition.specs.Link.{working_lag, elapsed_lag, lag_of, held_by, cut, tenfold}

-- ---- held

-- the library's clamp to -most to most
pub clamp_held : (m : ℕ) (z : ℤ) → int_max (negsuc m) (int_min z (pos (suc m))) ≡ held_by (suc m) z
clamp_held m (pos n) = by (ltb (suc m) n) refl
  where
    by : (t : Bool) → ltb (suc m) n ≡ t → int_max (negsuc m) (cond t (pos (suc m)) (pos n)) ≡ pos (min n (suc m))
    by true e = let k : suc m ≡ min n (suc m) = omega (arith, ltb-true (suc m) n e) in ap pos k
    by false e = let k : n ≡ min n (suc m) = omega (arith, ltb-false (suc m) n e) in ap pos k
clamp_held m (negsuc n) = by (ltb m n) refl
  where
    by : (t : Bool) → ltb m n ≡ t → cond t (negsuc m) (negsuc n) ≡ neg_ℤ (pos (min (suc n) (suc m)))
    by true e = let k : suc m ≡ min (suc n) (suc m) = omega (arith, ltb-true m n e) in ap (λ (k : ℕ). neg_ℤ (pos k)) k
    by false e = let k : suc n ≡ min (suc n) (suc m) = omega (arith, ltb-false m n e) in ap (λ (k : ℕ). neg_ℤ (pos k)) k

held_neg : (most k : ℕ) → held_by most (neg_ℤ (pos k)) ≡ neg_ℤ (pos (min k most))
held_neg most zero = let e : min 0 most ≡ 0 = omega arith in rw e
held_neg most (suc k) = refl

ten_neg : (k : ℕ) → neg_ℤ (pos k) *ℤ pos 10 ≡ neg_ℤ (pos (k * 10))
ten_neg zero = refl
ten_neg (suc k) = refl

-- a share is held before it is multiplied
ten_held : (z : ℤ) → held_by 1000000 z *ℤ pos 10 ≡ held_by 10000000 (tenfold z)
ten_held (pos n) = let e : min n 1000000 * 10 ≡ min (n * 10) 10000000 = omega arith in ap pos e
ten_held (negsuc n) =
    let e : min (suc n) 1000000 * 10 ≡ min (suc n * 10) 10000000 = omega arith in
    ten_neg (min (suc n) 1000000) ∙ ap (λ (k : ℕ). neg_ℤ (pos k)) e ∙ sym (held_neg 10000000 (suc n * 10))

neg_fits : (k : ℕ) → k < 2 ^ 63 → SFits w64 (neg_ℤ (pos k))
neg_fits zero h = record { sfits = omega arith }
neg_fits (suc k) h = record { sfits = omega arith }

held_fits : (most : ℕ) → most < 2 ^ 63 → (z : ℤ) → SFits w64 (held_by most z)
held_fits most h (pos n) = record { sfits = omega arith }
held_fits most h (negsuc n) = neg_fits (min (suc n) most) (omega arith)

-- ---- in each format

module _ (per_day format : ℕ) (z : ℤ) where
  pub lag_percent : {r : ℤ} → percent_format format ≡ true → SFits w64 r → r ≡ held_by 1000000 z → record { days = pos 0; minutes = None; kind = (2, Some (to_z w64 (of_z w64 (to_z w64 (of_z w64 r) *ℤ pos 10)))) } ≡ lag_of per_day format z
  unfolding lag_of
  lag_percent {r} e f g =
      let k : to_z w64 (of_z w64 r) *ℤ pos 10 ≡ held_by 10000000 (tenfold z) = ap (λ (x : ℤ). x *ℤ pos 10) (to_z-of_z w64 r f ∙ g) ∙ ten_held z in
      rw (k, to_z-of_z w64 (held_by 10000000 (tenfold z)) (held_fits 10000000 (omega arith) (tenfold z)), e)

  pub lag_elapsed : {y : ℤ} → percent_format format ≡ false → elapsed_format format ≡ true → y ≡ cut z 10 → elapsed_lag y ≡ lag_of per_day format z
  unfolding lag_of
  lag_elapsed e f g = rw (g, e, f)

  pub lag_working : {y : ℤ} → percent_format format ≡ false → elapsed_format format ≡ false → y ≡ cut z 10 → working_lag per_day y ≡ lag_of per_day format z
  unfolding lag_of
  lag_working e f g = rw (g, e, f)

quot_cut : (z : ℤ) → quot_z z (pos 10) ≡ cut z 10
quot_cut (pos n) = refl
quot_cut (negsuc n) = refl

cut_fits : (z : ℤ) → SFits w64 z → SFits w64 (cut z 10)
cut_fits (pos n) f = let k = f.sfits in record { sfits = omega arith }
cut_fits (negsuc n) f = let k = f.sfits in neg_fits (suc n / 10) (omega arith)

-- the machine's division is the definition's
pub divided : (z : ℤ) → SFits w64 z → to_z w64 (of_z w64 (quot_z (to_z w64 (of_z w64 z)) (pos 10))) ≡ cut z 10
divided z f =
    ap (λ (x : ℤ). to_z w64 (of_z w64 (quot_z x (pos 10)))) (to_z-of_z w64 z f)
    ∙ ap (λ (x : ℤ). to_z w64 (of_z w64 x)) (quot_cut z)
    ∙ to_z-of_z w64 (cut z 10) (cut_fits z f)
