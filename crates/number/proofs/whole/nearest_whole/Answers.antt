use Rattle.std.proofs.Common.{◌≡◌, ℕ, ◌^◌, ◌<◌, ◌≤◌, ℤ, pos, ◌-ℤ◌, sym, ap, ◌∙◌, subst, arith, w64, SFits, to_z, of_z}
use lib.Ieee.{of_bits}
use lib.Signed.{mag}
use mir.ValLaws.{to_z_pos, to_z-of_z}
use Rattle.number.proofs.Rounded.{half_small, is_below, not_below_lem, opposite_fits}
use Rattle.number.proofs.whole.nearest_whole.Goals as goal

small : (n : ℕ) {k : ℕ} → n ≡ k → k ≤ 1000000000000000000 → n < 2 ^ 63
small n e h = omega arith

-- what the machine reads of n and of its opposite
module _ (n : ℕ) (h : n < 2 ^ 63) where
  reads_n : to_z w64 n ≡ pos n
  reads_n = to_z_pos w64 n h

  fits_minus : SFits w64 (pos 0 -ℤ to_z w64 n)
  fits_minus = subst (λ (z : ℤ). SFits w64 (pos 0 -ℤ z)) (sym reads_n) (record { sfits = opposite_fits n h })

  reads_minus : to_z w64 (of_z w64 (pos 0 -ℤ to_z w64 n)) ≡ pos 0 -ℤ pos n
  reads_minus = to_z-of_z w64 (pos 0 -ℤ to_z w64 n) fits_minus ∙ ap (λ (z : ℤ). pos 0 -ℤ z) reads_n

-- what `cast_signed` gives, as the machine reads it
cast : (n : ℕ) {r : ℤ} → r ≡ to_z w64 n → mag r < 9223372036854775808 → to_z w64 (of_z w64 r) ≡ to_z w64 n
cast n {r} e f = to_z-of_z w64 r (record { sfits = f }) ∙ e

pub overflow_sub-result : goal.overflow_sub-result
overflow_sub-result c =
    let n = c.half_within.result in
    subst (λ (z : ℤ). SFits w64 (pos 0 -ℤ z)) (sym (cast n c.cast_signed.ensures c.cast_signed.type_inv)) (fits_minus n (small n c.half_within.ensures (half_small _)))

pub returns-then-x : goal.returns-then-x
unfolding of_bits
returns-then-x c =
    let n = c.half_within.result in
    ap (λ (z : ℤ). to_z w64 (of_z w64 (pos 0 -ℤ z))) (cast n c.cast_signed.ensures c.cast_signed.type_inv)
    ∙ reads_minus n (small n c.half_within.ensures (half_small _))
    ∙ ap (λ (n : ℕ). pos 0 -ℤ pos n) c.half_within.ensures
    ∙ is_below c.args.x c.if-x.true

pub returns : goal.returns
unfolding of_bits
returns c =
    let n = c.half_within-2.result in
    cast n c.cast_signed-2.ensures c.cast_signed-2.type_inv
    ∙ reads_n n (small n c.half_within-2.ensures (half_small _))
    ∙ ap pos c.half_within-2.ensures
    ∙ not_below_lem c.args.x c.if-x.false
