-- Signed numbers at the edge, at any width: what the machine's bits of a number and its reading of bits are. Assumes nothing.
use Rattle.std.specs.Prelude.{if◌then◌else◌}
use mathlib.Core.Path.{◌≡◌, refl, ap, ◌∙◌}
use mathlib.Core.Bool.{Bool, true, false}
use Prim.Native.Nat.{ℕ, suc, ◌-◌, ◌^◌, ◌<◌}
use lib.Dec.{ltb}
use lib.IntN.{ℤ, pos, negsuc}
use mir.Syntax.{Width, w8, w16, w32, w64, w128}
use mir.Val.{bits, hbits, SFits, of_z, to_z, sel}
use mir.Facts.{to_z-of_z, sfits_to_z}
use Rattle.definition.specs.Bits.{twos, signed}

half : (w : Width) → hbits w ≡ bits w - 1
half w8 = refl
half w16 = refl
half w32 = refl
half w64 = refl
half w128 = refl

-- the bits of a signed number
twos_is : (w : Width) (z : ℤ) → of_z w z ≡ twos (bits w) z
unfolding twos
twos_is w (pos n) = refl
twos_is w (negsuc n) = refl

module _ (w : Width) where
  pub twos_cast : (z : ℤ) {n : ℕ} → SFits w z → n ≡ of_z w (to_z w (of_z w z)) → n ≡ twos (bits w) z
  twos_cast z f e = e ∙ ap (of_z w) (to_z-of_z f) ∙ twos_is w z

  -- bits read as signed
  read_signed : (v : ℕ) → to_z w v ≡ signed (bits w) v
  unfolding signed
  read_signed v = rw (← half w) (if_sel (ltb v (2 ^ hbits w)))
    where
      if_sel : (t : Bool) → sel t (pos v) (negsuc (2 ^ bits w - suc v)) ≡ if t then pos v else negsuc (2 ^ bits w - suc v)
      if_sel true = refl
      if_sel false = refl

  pub signed_cast : (v : ℕ) {z : ℤ} → z ≡ to_z w v → v < 2 ^ bits w → to_z w (of_z w z) ≡ signed (bits w) v
  signed_cast v e h = rw (e, ← read_signed v) (to_z-of_z {w = w} (sfits_to_z {w = w} (record { fits = h })))
