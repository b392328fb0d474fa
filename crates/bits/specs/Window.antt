-- A number that was read from some bits in a row. Assumes nothing.
use Rattle.std.specs.Prelude.{◌≡◌, List, ℕ, ◌^◌, ◌<◌, take, drop}
use Rattle.definition.specs.Bits.{enc, bits_of}

-- the first n bits of the field at a position are those of acc
pub record Read (s : List ℕ) (at n acc : ℕ) : Type 0 where
  pub are : take n (drop at (bits_of s)) ≡ enc n acc
  pub small : acc < 2 ^ n
