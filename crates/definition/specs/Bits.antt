-- Bits. Document 01: bits are packed most significant bit first. They are a list of 0 and 1 here. Assumes nothing.
use Rattle.std.specs.Prelude.{if◌then◌else◌, ℕ, zero, suc, ◌+◌, ◌-◌, ◌*◌, ◌/◌, ◌%◌, ◌^◌, List, [], ◌∷◌, ◌++◌, length, take, drop, replicate, ltb, ℤ, pos, negsuc}

abbrev pub Bits : Type 0
Bits = List ℕ

-- the w low bits of v, and the number that bits stand for
unfoldable pub enc : ℕ → ℕ → Bits
enc zero v = []
enc (suc w) v = (v / 2 ^ w % 2) ∷ enc w v

unfoldable pub dec : Bits → ℕ
dec [] = 0
dec (b ∷ l) = b * 2 ^ length l + dec l

-- the bits of bytes, and the bytes of bits
unfoldable pub bits_of : List ℕ → Bits
bits_of [] = []
bits_of (b ∷ l) = enc 8 b ++ bits_of l

unfoldable pub bytes_up_to : ℕ → Bits → List ℕ
bytes_up_to zero l = []
bytes_up_to (suc n) l = dec (take 8 l) ∷ bytes_up_to n (drop 8 l)

abbrev pub bytes_of : Bits → List ℕ
bytes_of l = bytes_up_to (length l / 8) l

-- how many bits there are from the nth on to the next byte, and as many zeros
abbrev pub gap : ℕ → ℕ
gap n = (8 - n % 8) % 8

abbrev pub pad : ℕ → Bits
pad n = replicate (gap n) 0

-- a signed number in w bits, as two's complement
unfoldable pub twos : ℕ → ℤ → ℕ
twos w (pos n) = n
twos w (negsuc n) = 2 ^ w - suc n

unfoldable pub signed : ℕ → ℕ → ℤ
signed w v = if ltb v (2 ^ (w - 1)) then pos v else negsuc (2 ^ w - suc v)
