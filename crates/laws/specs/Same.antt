-- When two lists of numbers are the same. Assumes nothing.
use Rattle.std.specs.Prelude.{◌≡◌, refl, true, List, [], ◌∷◌, ℕ, eqb}
use Rattle.std.proofs.lemmas.Bool.{false≢true}
use Rattle.std.proofs.Common.{eq-eqb, eqb-true}
use Rattle.definition.specs.Base.{same}
use Rattle.laws.specs.Bools.{both}

pub same_refl : (a : List ℕ) → same a a ≡ true
unfolding same
same_refl [] = refl
same_refl (x ∷ a) = rw (eq-eqb x x refl) (same_refl a)

pub same_eq : (a b : List ℕ) → same a b ≡ true → a ≡ b
unfolding same
same_eq [] [] h = refl
same_eq [] (y ∷ b) h = absurd (false≢true h)
same_eq (x ∷ a) [] h = absurd (false≢true h)
same_eq (x ∷ a) (y ∷ b) h =
    let (p, q) = both (eqb x y) (same a b) h in
    let e = eqb-true x y p in
    let f = same_eq a b q in
    cc
