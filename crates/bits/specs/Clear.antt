-- One value, and zeros, from an index of a list on. Assumes nothing.
use Rattle.std.specs.Prelude.{◌≡◌, List, ◌++◌, ℕ, ◌-◌, length, take, replicate}
use Rattle.std.proofs.Math.Nat.{sub-zero}

abbrev pub filled : {A : Type 0} → ℕ → A → List A → List A
filled n x s = take n s ++ replicate (length s - n) x

abbrev pub cleared : ℕ → List ℕ → List ℕ
cleared n s = filled n 0 s

-- from the first on: all of it
pub cleared_all : (s : List ℕ) → cleared 0 s ≡ replicate (length s) 0
cleared_all s = rw sub-zero
