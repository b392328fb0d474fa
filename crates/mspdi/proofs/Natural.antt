-- A number that is not below 0, as `try_from` gives it. Assumes nothing.
use mathlib.Core.Path.{◌≡◌, refl, subst}
use mathlib.Core.Bool.{false}
use Prim.Native.Nat.{ℕ, ◌^◌, ◌<◌}
use Rattle.std.specs.Prelude.{Result, Ok, Err}
use Rattle.std.specs.Int.{FitsUnsignedBits}
use Rattle.std.specs.Result.{OkIff, result_unwrap_or}
use native.Mathlib.Omega.{arith}
use lib.Dec.{T}
use lib.IntN.{ℤ, pos, negsuc, nat_abs}
use lib.Signed.{lt_z, non_neg}
use mir.Syntax.{w64}
use mir.Val.{to_z, of_z, SFits}
use mir.ValLaws.{to_z-of_z}
use Rattle.mspdi.specs.Outcome.{from_zero}

pub tried : {E : Type 0} (r : Result ℕ E) (z : ℤ) → ((n : ℕ) → z ≡ pos n → n < 2 ^ 64) → OkIff r (FitsUnsignedBits 64 z) (nat_abs z) → result_unwrap_or r 18446744073709551615 ≡ from_zero z
tried (Ok x) (pos n) l h = h.1
tried (Ok x) (negsuc n) l h = absurd h.0
tried (Err e) (pos n) l h = absurd (h (l n refl))
tried (Err e) (negsuc n) l h = refl

-- ---- the same of what a cast to 64 bits and back gives: docs/PORT.md names it

pub record From (z : ℤ) : Type 0 where
  pub sign : T (non_neg z)
  pub size : nat_abs z ≡ from_zero z

from : (z : ℤ) → lt_z z (pos 0) ≡ false → From z
from (pos n) h = record { sign = tt; size = refl }
from (negsuc n) h = let e : ◌≡◌ {A = ℕ} 0 1 = cc in absurd (omega arith)

pub from_zero_lem : (z : ℤ) → SFits w64 z → lt_z (to_z w64 (of_z w64 z)) (pos 0) ≡ false → From z
from_zero_lem z f h = from z (subst (λ (y : ℤ). lt_z y (pos 0) ≡ false) (to_z-of_z w64 z f) h)
