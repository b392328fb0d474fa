-- A number with what stands for one below 0, as the conversion gives it. Assumes nothing.
use Rattle.std.proofs.Common.{◌≡◌, ℕ, refl, subst, arith}
use Rattle.std.specs.Prelude.{ℤ, pos, negsuc, Some, Result, Ok, Err, unsigned_abs}
use Rattle.std.specs.Int.{FitsUnsignedBits}
use Rattle.std.specs.Result.{OkIff, result_unwrap_or}
use mir.Syntax.{w64}
use mir.Val.{to_z, of_z, SFits}
use mir.ValLaws.{to_z-of_z}
use Rattle.fields.specs.Answers.{unsigned_or}

module _ {E : Type 0} (below absent : ℕ) where
  abbrev Converted : Result ℕ E → ℤ → Type 0
  Converted r z = OkIff r (FitsUnsignedBits 64 z) (unsigned_abs z)

  held_at : (z : ℤ) (r : Result ℕ E) → SFits w64 z → Converted r z → result_unwrap_or r below ≡ unsigned_or below absent (Some z)
  unfolding unsigned_or
  held_at (pos n) (Ok x) f h = h.1
  held_at (pos n) (Err e) f h = let k = f.sfits in absurd (h (omega arith))
  held_at (negsuc n) (Ok x) f h = absurd h.0
  held_at (negsuc n) (Err e) f h = refl

  -- the machine's reading of a number that fits is the number
  pub held : (z : ℤ) (r : Result ℕ E) → SFits w64 z → Converted r (to_z w64 (of_z w64 z)) → result_unwrap_or r below ≡ unsigned_or below absent (Some z)
  held z r f h = held_at z r f (subst (Converted r) (to_z-of_z w64 z f) h)
