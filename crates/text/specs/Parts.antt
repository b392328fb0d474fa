-- Parts of a list, as slices show them. Assumes nothing.
use Rattle.std.specs.Prelude.{◌≡◌, refl, ◌⊎◌, List, [], ◌∷◌, Bool, true, false, ℕ, ◌+◌, ◌-◌, ◌≤◌, ◌<◌, leb, length, take, drop, get_or}
use Rattle.std.proofs.Common.{inl, inr, add-one, arith, drop_of_length-le, length-drop, drop-cons, take_all, leb-true, leb-false}

pub le_or_lt : (a b : ℕ) → (a ≤ b) ⊎ (b < a)
le_or_lt a b = go (leb a b) refl
  where
    go : (x : Bool) → leb a b ≡ x → (a ≤ b) ⊎ (b < a)
    go true e = inl (leb-true a b e)
    go false e = inr (leb-false a b e)

pub at_cons : (s : List ℕ) (i : ℕ) → i < length s → drop i s ≡ get_or s i 0 ∷ drop (i + 1) s
at_cons s i h = rw (add-one, drop-cons s i 0)

pub at_end_lem : (s : List ℕ) (i : ℕ) → length s ≤ i → drop i s ≡ []
at_end_lem s i h = drop_of_length-le s h

-- `&s[k..]`
pub all_of : (k : ℕ) (s : List ℕ) → take (length s - k) (drop k s) ≡ drop k s
all_of k s = take_all (length s - k) (drop k s) (simp length-drop (omega arith))
