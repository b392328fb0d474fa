-- A text cut at the first byte that passes a test: its place, and what stands before and after as parts of the text. Assumes nothing.
use Rattle.std.specs.List.{position, position_or_len}
use Rattle.std.specs.Option.{unwrap_or}
use lib.Dec.{ltb}
use borrow.Author.Tests.{ltb-false}
use Rattle.std.proofs.lemmas.List.Recursion.{is_position_or_len}
use Rattle.std.specs.Prelude.{cond, if◌then◌else◌, ◌≡◌, ◌⊎◌, Bool, drop, get_or}
use Rattle.std.proofs.Math.Path.{refl, ap}
use Rattle.std.proofs.Common.{sym, ◌∙◌, inl, inr, suc-add}
use mathlib.Core.List.{[], ◌∷◌}
use Rattle.std.specs.Prelude.{Option, Some, None}
use Rattle.std.proofs.Math.Bool.{true, false}
use Prim.Native.Nat.{ℕ, suc, ◌+◌, ◌≤◌, ◌<◌}
use native.Mathlib.Omega.{arith}
use Rattle.std.proofs.Math.ListN.{length, take}
use Rattle.definition.specs.Base.{◌or◌}
use Rattle.definition.specs.Text.{Text, before, after}
use Rattle.text.specs.Parts.{le_or_lt, at_cons, at_end_lem}

-- where the first byte stands that passes; the length where none does
abbrev pub place_of : (ℕ → Bool) → Text → ℕ
place_of p s = length (before p s)

module _ (p : ℕ → Bool) where
  pub place_within : (s : Text) → place_of p s ≤ length s
  unfolding before
  place_within [] = omega arith
  place_within (b ∷ s) = go (p b) (place_within s)
    where
      go : (x : Bool) → place_of p s ≤ length s → length (if x then [] else b ∷ before p s) ≤ suc (length s)
      go true h = omega arith
      go false h = omega arith

  pub place_is : (s : Text) → place_of p s ≡ position_or_len p s
  unfolding before
  place_is s = is_position_or_len (place_of p) p refl (λ x xs. go x (p x) xs) s
    where
      go : (x : ℕ) (y : Bool) (xs : Text) → length (if y then [] else (x ∷ before p xs)) ≡ cond y 0 (1 + place_of p xs)
      go x true xs = refl
      go x false xs = omega arith

  -- the first place as the library finds it
  pub place_found : (s : Text) → unwrap_or (position p s) (length s) ≡ place_of p s
  place_found s = go (ltb (position_or_len p s) (length s)) refl
    where
      go : (y : Bool) → ltb (position_or_len p s) (length s) ≡ y → unwrap_or (cond y (Some (position_or_len p s)) None) (length s) ≡ place_of p s
      go true e = sym (place_is s)
      go false e = let h = place_within s in let k = place_is s in let l = ltb-false (position_or_len p s) (length s) e in omega arith

  pub before_take : (s : Text) → before p s ≡ take (place_of p s) s
  unfolding before
  before_take [] = refl
  before_take (b ∷ s) = go (p b) (before_take s)
    where
      go : (x : Bool) → before p s ≡ take (place_of p s) s
          → (if x then [] else b ∷ before p s) ≡ take (length (if x then [] else b ∷ before p s)) (b ∷ s)
      go true h = refl
      go false h = ap (λ (z : Text). b ∷ z) h

  -- there is such a byte: its place lies within
  pub after_some : (s : Text) → place_of p s < length s → after p s ≡ Some (drop (place_of p s + 1) s)
  unfolding before after
  after_some [] h = absurd (omega arith)
  after_some (b ∷ s) h = go (p b) (after_some s) h
    where
      go : (x : Bool) → (place_of p s < length s → after p s ≡ Some (drop (place_of p s + 1) s))
          → length (if x then [] else b ∷ before p s) < suc (length s)
          → (if x then Some s else after p s) ≡ Some (drop (length (if x then [] else b ∷ before p s) + 1) (b ∷ s))
      go true f k = refl
      go false f k = f (omega arith) ∙ ap (λ (n : ℕ). Some (drop n (b ∷ s))) (sym (suc-add (place_of p s) 1))

  -- there is none: the text ends first
  pub after_none : (s : Text) → length s ≤ place_of p s → after p s ≡ None
  unfolding before after
  after_none [] h = refl
  after_none (b ∷ s) h = go (p b) (after_none s) h
    where
      go : (x : Bool) → (length s ≤ place_of p s → after p s ≡ None)
          → suc (length s) ≤ length (if x then [] else b ∷ before p s)
          → (if x then Some s else after p s) ≡ None
      go true f k = absurd (omega arith)
      go false f k = f (omega arith)

  pub after_drop : (s : Text) → (after p s or []) ≡ drop (place_of p s + 1) s
  after_drop s = go (le_or_lt (length s) (place_of p s))
    where
      go : (length s ≤ place_of p s) ⊎ (place_of p s < length s) → (after p s or []) ≡ drop (place_of p s + 1) s
      go (inl h) = ap (λ (o : Option Text). o or []) (after_none s h) ∙ sym (at_end_lem s (place_of p s + 1) (omega arith))
      go (inr h) = ap (λ (o : Option Text). o or []) (after_some s h)

  -- one byte further on
  module _ (s : Text) (i : ℕ) where
    pub place_here : i < length s → p (get_or s i 0) ≡ true → place_of p (drop i s) ≡ 0
    unfolding before
    place_here h e = rw (at_cons s i h) (rw e)

    pub place_on : i < length s → p (get_or s i 0) ≡ false → place_of p (drop i s) ≡ suc (place_of p (drop (i + 1) s))
    unfolding before
    place_on h e = rw (at_cons s i h) (rw e)

    pub place_end : length s ≤ i → place_of p (drop i s) ≡ 0
    unfolding before
    place_end h = rw (at_end_lem s i h)
