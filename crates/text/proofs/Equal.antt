-- When two texts have the same bytes. Assumes nothing.
use mathlib.Core.Path.{◌≡◌, refl, ap}
use mathlib.Core.List.{[], ◌∷◌}
use mathlib.Core.Bool.{true, false, ◌&&◌, and-false}
use lib.Pointwise.{pointwise}
use Prim.Native.Nat.{ℕ, suc, ◌+◌, ◌≤◌, ◌<◌}
use lib.Dec.{eqb}
use lib.ListN.{length, drop, get_or}
use borrow.Author.Tests.{eq-eqb, ne_eqb}
use Rattle.definition.specs.Base.{same}
use Rattle.definition.specs.Text.{Text}
use Rattle.text.specs.Parts.{at_cons, at_end_lem}

-- as the library compares slices
pub same_is : (a b : Text) → same a b ≡ pointwise eqb a b
unfolding same
same_is [] [] = refl
same_is [] (y ∷ b) = refl
same_is (x ∷ a) [] = refl
same_is (x ∷ a) (y ∷ b) = ap (λ r. eqb x y && r) (same_is a b)

-- texts of other lengths differ
pub same_lengths : (a b : Text) → (length a ≡ length b → ⊥) → same a b ≡ false
unfolding same
same_lengths [] [] h = absurd (h refl)
same_lengths [] (y ∷ b) h = refl
same_lengths (x ∷ a) [] h = refl
same_lengths (x ∷ a) (y ∷ b) h = rw (same_lengths a b (λ e. h (ap suc e))) (and-false (eqb x y))

module _ (a b : Text) (i : ℕ) where
  pub same_off : i < length a → i < length b → (get_or a i 0 ≡ get_or b i 0 → ⊥) → same (drop i a) (drop i b) ≡ false
  unfolding same
  same_off h k n = rw (at_cons a i h, at_cons b i k) (rw (ne_eqb (get_or a i 0) (get_or b i 0) n))

  pub same_on : i < length a → i < length b → get_or a i 0 ≡ get_or b i 0 → same (drop i a) (drop i b) ≡ same (drop (i + 1) a) (drop (i + 1) b)
  unfolding same
  same_on h k e = rw (at_cons a i h, at_cons b i k) (rw (eq-eqb (get_or a i 0) (get_or b i 0) e))

  pub same_end : length a ≤ i → length b ≤ i → same (drop i a) (drop i b) ≡ true
  unfolding same
  same_end h k = rw (at_end_lem a i h, at_end_lem b i k)
