-- What the fields of an element come to. Assumes nothing.
use Prim.Native.Nat.{ℕ, ◌+◌, ◌-◌, ◌%◌, ◌^◌, ◌≤◌, ◌<◌, min}
use native.Mathlib.Omega.{arith}
use mathlib.Core.Path.{◌≡◌, refl, ap, subst, ◌∙◌}
use Rattle.std.specs.Prelude.{Option, Some, None, Result, Ok, Err, unsigned_abs}
use Rattle.std.specs.Option.{unwrap_or}
use Rattle.std.specs.Int.{int_min, FitsUnsignedBits}
use Rattle.std.specs.Result.{OkIff, result_unwrap_or}
use lib.IntN.{ℤ, pos, negsuc, nat_abs}
use mir.Syntax.{w64}
use mir.Val.{to_z, of_z, SFits}
use mir.ValLaws.{to_z-of_z}
use mathlib.Core.Bool.{Bool, true, false, cond}
use borrow.Author.Tests.{ltb-true, ltb-false, le-leb, lt-leb}
use lib.Dec.{ltb}
use Rattle.definition.specs.Base.{◌or◌}
use Rattle.definition.specs.Bits.{twos}
use Rattle.definition.specs.Date.{Date, first_date, last_date}
use Rattle.definition.specs.Recurrence.{century}
use Rattle.recurrence.specs.Element.{pick_of, mask_of, last_by}

-- ---- numbers

module _ (most below absent : ℕ) where
  -- the smaller of z and `most`, which 32 bits hold, as the conversion gives it
  pub pick_held : {E : Type 0} (z : ℤ) → SFits w64 z → (p : ℤ) → SFits w64 p → p ≡ pos most → most < 2 ^ 32 → (m : ℤ) → SFits w64 m
      → m ≡ int_min (to_z w64 (of_z w64 z)) (to_z w64 (of_z w64 p))
      → (r : Result ℕ E) → OkIff r (FitsUnsignedBits 32 (to_z w64 (of_z w64 m))) (unsigned_abs (to_z w64 (of_z w64 m)))
      → result_unwrap_or r below ≡ pick_of most below absent (Some z)
  unfolding pick_of
  pick_held {E} z f p k e l m g q r h = go z (rw (to_z-of_z w64 z f, to_z-of_z w64 p k, e) at q) r (rw (to_z-of_z w64 m g) at h)
    where
      smaller : (n : ℕ) (b : Bool) → ltb most n ≡ b → cond b (pos most) (pos n) ≡ pos (min n most)
      smaller n true q = let l = ltb-true most n q in ap pos (omega arith)
      smaller n false q = let l = ltb-false most n q in ap pos (omega arith)

      fits : (n : ℕ) (r : Result ℕ E) → n < 2 ^ 32 → OkIff r (FitsUnsignedBits 32 (pos n)) n → result_unwrap_or r below ≡ n
      fits n (Ok x) l h = h.1
      fits n (Err e) l h = absurd (h (omega arith))

      go : (y : ℤ) → m ≡ int_min y (pos most) → (r : Result ℕ E) → OkIff r (FitsUnsignedBits 32 m) (unsigned_abs m) → result_unwrap_or r below ≡ pick_of most below absent (Some y)
      go (pos n) q r h = fits (min n most) r (omega arith) (subst (λ v. OkIff r (FitsUnsignedBits 32 v) (unsigned_abs v)) (q ∙ smaller n (ltb most n) refl) h)
      go (negsuc n) q (Ok x) h = absurd (subst (λ v. OkIff {E = E} (Ok x) (FitsUnsignedBits 32 v) (unsigned_abs v)) q h).0
      go (negsuc n) q (Err e) h = refl

-- the bits of a number that fits
of_bits : (z : ℤ) → SFits w64 z → of_z w64 z ≡ twos 64 z
unfolding twos
of_bits (pos n) f = refl
of_bits (negsuc n) f = refl

pub low_bits : (o : Option ℤ) (z : ℤ) → SFits w64 z → z ≡ unwrap_or o (pos 0) → of_z w64 (to_z w64 (of_z w64 z)) % 128 ≡ mask_of o
unfolding mask_of
low_bits o z f e = rw (to_z-of_z w64 z f, of_bits z f, e) (go o)
  where
    go : (x : Option ℤ) → twos 64 (unwrap_or x (pos 0)) % 128 ≡ twos 64 (x or pos 0) % 128
    go None = refl
    go (Some y) = refl

-- ---- by occurrences

module _ (from to : Date) where
  pub last_on : from ≤ last_date - century → from + century ≡ last_by true from to
  unfolding last_by
  last_on h = rw (le-leb first_date (from + century) (omega arith), le-leb (from + century) last_date (omega arith))

  pub last_past : last_date - century < from → to ≡ last_by true from to
  unfolding last_by
  last_past h = rw (le-leb first_date (from + century) (omega arith), lt-leb (from + century) last_date (omega arith))
