-- A date as ISO 8601 writes it, in bytes. Assumes nothing: these are definitions.
use Rattle.std.specs.Prelude.{ℕ, ◌+◌, ◌/◌, ◌%◌, List, [], ◌∷◌}

-- the last decimal digit
abbrev pub digit_of : ℕ → ℕ
digit_of n = 48 + n % 10

abbrev pub iso_of : ℕ → ℕ → ℕ → List ℕ
iso_of y m d =
    digit_of (y / 1000) ∷ digit_of (y / 100) ∷ digit_of (y / 10) ∷ digit_of y ∷ 45 ∷ digit_of (m / 10) ∷ digit_of m ∷ 45 ∷ digit_of (d / 10) ∷
    digit_of d ∷ []
