-- The numbers of a head of two words: fields of 7, 9 and 16 bits. Assumes nothing.
use mathlib.Core.Path.{◌≡◌}
use mathlib.Core.List.{[], ◌∷◌, ◌++◌, append_assoc, append-nil}
use Prim.Native.Nat.{ℕ, ◌+◌, ◌*◌, ◌/◌, ◌%◌, ◌≤◌, ◌<◌}
use native.Mathlib.Omega.{arith}
use lib.ListN.{length, take, drop}
use lib.Seq.{take_at, drop_at, take-append-le, drop-append-le}
use lib.Pow.{high}
use Rattle.definition.specs.Bits.{enc, dec, bits_of}
use Rattle.laws.specs.Bits.{length_enc, enc_split, enc_high, dec_enc, take_enc, drop_enc}

-- two bytes side by side
enc_two : (a b : ℕ) → b < 256 → enc 16 (a * 256 + b) ≡ enc 8 a ++ enc 8 b
enc_two a b h = rw (enc_split 8 8 (a * 256 + b), high a 8 h, enc_high 8 a b)

-- the fields of 7, 9 and 16 bits in two words
module _ (w t : ℕ) where
  seven : 7 ≤ length (enc 16 w)
  seven = omega (arith, length_enc 16 w)

  pub first_field : dec (take 7 (enc 16 w ++ enc 16 t)) ≡ w / 512 % 128
  first_field = rw (take-append-le 7 (enc 16 w) (enc 16 t) seven, take_enc 7 9 w) (dec_enc 7 (w / 512))

  pub second_field : dec (take 9 (drop 7 (enc 16 w ++ enc 16 t))) ≡ w % 512
  second_field =
      rw (drop-append-le 7 (enc 16 w) (enc 16 t) seven, drop_enc 7 9 w, take_at (enc 9 w) (enc 16 t) 9 (length_enc 9 w)) (dec_enc 9 w)

  pub third_field : dec (drop 16 (enc 16 w ++ enc 16 t)) ≡ t % 65536
  third_field = rw (drop_at (enc 16 w) (enc 16 t) 16 (length_enc 16 w)) (dec_enc 16 t)

-- the bits of four bytes
pub four : (a b c d : ℕ) → b < 256 → d < 256 → bits_of (a ∷ b ∷ c ∷ d ∷ []) ≡ enc 16 (a * 256 + b) ++ enc 16 (c * 256 + d)
unfolding bits_of
four a b c d hb hd = rw (enc_two a b hb, enc_two c d hd, append-nil, append_assoc)
