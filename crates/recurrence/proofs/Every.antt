-- Whole numbers of steps. Assumes nothing.
use Prim.Native.Nat.{ℕ, suc, ◌+◌, ◌*◌, ◌/◌, ◌%◌, ◌≤◌, ◌<◌}
use native.Mathlib.Omega.{arith}
use native.Mathlib.Nat.{lt_of_mul-lt-mul_right, div-add-mod', mul-mod_left, mul-div_cancel, le-div_iff_mul-le, suc-mul}
use mathlib.Core.Path.{◌≡◌}
use mathlib.Core.Bool.{true, false, and-false}
use lib.Dec.{eqb}
use borrow.Author.Tests.{ne_eqb, lt-ltb, le-ltb}
use Rattle.definition.specs.Recurrence.{every_nth}
use Rattle.recurrence.specs.Kind.{UpTo}

pub on_step : (q step most : ℕ) → 0 < step → q < most → every_nth step most (q * step) ≡ true
on_step q step most pos h = rw (mul-mod_left, mul-div_cancel q pos) (lt-ltb q most h)

pub off_step : (n step q most m : ℕ) → UpTo n step q → n ≤ m → m < q * step → every_nth step most m ≡ false
off_step n step q most m u low high = rw (ne_eqb (m % step) 0 (u.between m low high))

pub past_steps : (step most m : ℕ) → 0 < step → most * step ≤ m → every_nth step most m ≡ false
past_steps step most m pos h = rw (le-ltb (m / step) most ((le-div_iff_mul-le pos).1 h)) (and-false (eqb (m % step) 0))

-- one step more
pub one_up : (q step : ℕ) → 0 < step → UpTo (suc (q * step)) step (suc q)
one_up q step pos = record { reach = omega (arith, suc-mul q step); short = omega (arith, suc-mul q step); between = between }
  where
    between : (m : ℕ) → suc (q * step) ≤ m → m < suc q * step → m % step ≡ 0 → ⊥
    between m low high zero_rest =
        let j = m / step in
        let whole : j * step + m % step ≡ m = div-add-mod' m step in
        let less : j < suc q = lt_of_mul-lt-mul_right step (omega arith) in
        let more : q < j = lt_of_mul-lt-mul_right step (omega arith) in
        omega arith
