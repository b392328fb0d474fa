-- What is kept of a list, from its first item on, and how many are. Assumes nothing.
use Rattle.std.specs.Prelude.{if◌then◌else◌, ℕ, ◌+◌, ◌≡◌, Bool, true, false, List, ◌∷◌, length}
use Rattle.std.proofs.Common.{arith}
use Rattle.definition.specs.Base.{keep}

pub keep_yes : {A : Type 0} (p : A → Bool) (x : A) (l : List A) → p x ≡ true → keep p (x ∷ l) ≡ x ∷ keep p l
unfolding keep
keep_yes p x l h = rw h

pub keep_no : {A : Type 0} (p : A → Bool) (x : A) (l : List A) → p x ≡ false → keep p (x ∷ l) ≡ keep p l
unfolding keep
keep_no p x l h = rw h

-- 1 for one that counts
abbrev pub one_if : Bool → ℕ
one_if t = if t then 1 else 0

pub keep_more : {A : Type 0} (p : A → Bool) (x : A) (l : List A) → length (keep p (x ∷ l)) ≡ one_if (p x) + length (keep p l)
unfolding keep
keep_more p x l = by (p x)
  where
    by : (t : Bool) → length (if t then x ∷ keep p l else keep p l) ≡ one_if t + length (keep p l)
    by true = omega arith
    by false = omega arith
