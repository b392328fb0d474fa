-- What an entry leaves: its result, the lent output and the count. Assumes nothing.
use Rattle.std.specs.Prelude.{ℕ, ◌^◌, ◌-◌, List, ℤ, pos, negsuc}
use Rattle.definition.specs.Refusal.{Answer, result, left, written}

abbrev pub leaves : ℕ → Answer → ℕ × List ℕ × ℕ
leaves room a = (result a, left room a, written a)

-- a number that is not below 0; for any other the largest of 64 bits
abbrev pub from_zero : ℤ → ℕ
from_zero (pos n) = n
from_zero (negsuc n) = 2 ^ 64 - 1
