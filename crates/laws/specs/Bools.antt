-- What a test says where it holds. Assumes nothing.
use Rattle.std.specs.Prelude.{◌≡◌, Bool, true, false, ◌&&◌, ℕ, ◌≤◌, leb}
use Rattle.std.proofs.Common.{sym, ◌∙◌, true≢false, leb-true, le-leb}
use Rattle.std.proofs.Math.Bool.{and-eq-true_iff}
use Rattle.definition.specs.Base.{within}

-- a test is not both
pub differ : {A : Type 0} (t : Bool) → t ≡ true → t ≡ false → A
differ t h k = absurd (true≢false (sym h ∙ k))

pub both : (a b : Bool) → (a && b) ≡ true → (a ≡ true) × (b ≡ true)
both a b = (and-eq-true_iff a b).0

pub and_left : (a b : Bool) → (a && b) ≡ true → a ≡ true
and_left a b h = (both a b h).0

pub and_right : (a b : Bool) → (a && b) ≡ true → b ≡ true
and_right a b h = (both a b h).1

-- lo ≤ n ≤ hi
abbrev pub Within : ℕ → ℕ → ℕ → Type 0
Within lo hi n = (lo ≤ n) × (n ≤ hi)

pub within_is : (lo hi n : ℕ) → within lo hi n ≡ true → Within lo hi n
within_is lo hi n h = let (p, q) = both (leb lo n) (leb n hi) h in (leb-true lo n p, leb-true n hi q)

pub is_within : (lo hi n : ℕ) → Within lo hi n → within lo hi n ≡ true
is_within lo hi n h = rw (le-leb lo n h.0, le-leb n hi h.1)
