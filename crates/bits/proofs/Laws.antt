-- Shifts and masks, room, and the order of places. Assumes nothing.
use mathlib.Core.Path.{◌≡◌, refl, sym}
use mathlib.Core.Bool.{Bool, true, false, ◌&&◌}
use Prim.Native.Nat.{ℕ, ◌+◌, ◌-◌, ◌*◌, ◌/◌, ◌%◌, ◌^◌, ◌≤◌, ◌<◌, min}
use native.Mathlib.Nat.{one-mul, mod-eq_of_lt, mod-lt}
use native.Mathlib.Omega.{arith}
use lib.Pow.{pow-lt, pow_pos}
use lib.Bits.{bit_and, and_mask}
use mir.Val.{bool_byte}
use Rattle.definition.specs.Format.{bit}
use lib.Dec.{leb, ltb}
use borrow.Author.Tests.{leb-true, leb-false, ltb-true, lt-leb}
use Rattle.bits.specs.declared.Place.{Place}
use Rattle.bits.specs.Places.{at, room, fits_room, room_short, up_to}

-- room is told by whole bytes
pub room_bytes : (n : ℕ) (p : Place) (w : ℕ) {x : ℕ} → x ≡ (p.bit + w) / 8 + min 1 ((p.bit + w) % 8) → p.bit ≤ 7 → p.byte ≤ n → leb x (n - p.byte) ≡ room n p w
room_bytes n p w {x} e h b = told (leb x (n - p.byte)) refl
  where
    told : (t : Bool) → leb x (n - p.byte) ≡ t → t ≡ room n p w
    told true f = sym (fits_room (record { bit = omega arith; ends = omega (arith, leb-true x (n - p.byte) f) }))
    told false f = sym (room_short n p w (λ k. omega (arith, leb-false x (n - p.byte) f)))

-- a flag as a number
pub bit_is : (b : Bool) → bool_byte b ≡ bit b
bit_is true = refl
bit_is false = refl

pub one_shl : (k : ℕ) → k < 64 → (1 * 2 ^ k) % 2 ^ 64 ≡ 2 ^ k
one_shl k h = rw one-mul (mod-eq_of_lt (pow-lt h))

pub masked : (v k : ℕ) → k < 64 → bit_and v ((1 * 2 ^ k) % 2 ^ 64 - 1) ≡ v % 2 ^ k
masked v k h = rw (one_shl k h) (and_mask v k)

pub part_lt : {x : ℕ} (v k : ℕ) → x ≡ v % 2 ^ k → x < 2 ^ k
part_lt {x} v k e = rw e (mod-lt v (pow_pos k))

pub up_not : (p q : Place) → (p.bit < 8 → at q < at p) → up_to p q ≡ false
unfolding up_to
up_not p q h = short (ltb p.bit 8) refl
  where
    short : (t : Bool) → ltb p.bit 8 ≡ t → (t && leb (at p) (at q)) ≡ false
    short true e = lt-leb _ _ (h (ltb-true _ _ e))
    short false e = refl
