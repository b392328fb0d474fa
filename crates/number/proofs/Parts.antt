-- Places in a text: the first byte that passes a test, and what stands before it. Assumes nothing.
use Rattle.std.proofs.Common.{◌≡◌, ℕ, zero, suc, ◌+◌, ◌<◌, ◌≤◌, Bool, true, false, [], ◌∷◌, length, get_or, sym, arith}
use Rattle.std.specs.Prelude.{if◌then◌else◌, ◌⊎◌, Option, Some, None, ltb, unwrap_or, position}
use Rattle.std.specs.List.{position_or_len}
use Rattle.std.proofs.Common.{cond, refl, ap, ◌∙◌, inl, inr, le-ltb, lt-ltb}
use Rattle.std.proofs.lemmas.List.Recursion.{is_position_or_len}
use Rattle.text.specs.Parts.{le_or_lt}
use Rattle.std.specs.Prelude.{MatchOption}
use Rattle.std.specs.Borrow.{Bor}
use Rattle.std.proofs.Common.{rules}
use Rattle.laws.specs.Options.{Some-injective}
use Rattle.definition.specs.Base.{◌or◌}
use Rattle.definition.specs.Text.{Text, before, after}
use Rattle.text.specs.Cut.{place_of, place_within}

-- a byte that is not 0 stands within
pub byte_within : (s : Text) (k b : ℕ) → get_or s k 0 ≡ suc b → k < length s
byte_within [] k b e = absurd (omega arith)
byte_within (x ∷ s) zero b e = omega arith
byte_within (x ∷ s) (suc k) b e = let h = byte_within s k b e in omega arith

-- ---- the library's search for a place
place_or_len : (p : ℕ → Bool) (s : Text) → place_of p s ≡ position_or_len p s
unfolding before
place_or_len p = is_position_or_len (place_of p) p refl step
  where
    step : (b : ℕ) (s : Text) → place_of p (b ∷ s) ≡ cond (p b) 0 (1 + place_of p s)
    step b s = go (p b)
      where
        go : (t : Bool) → length (if t then [] else b ∷ before p s) ≡ cond t 0 (1 + place_of p s)
        go true = refl
        go false = omega arith

place_is : (p : ℕ → Bool) (s : Text) → unwrap_or (position p s) (length s) ≡ place_of p s
place_is p s = rw (← place_or_len p s) (go (le_or_lt (length s) (place_of p s)))
  where
    go : (length s ≤ place_of p s) ⊎ (place_of p s < length s) → unwrap_or (cond (ltb (place_of p s) (length s)) (Some (place_of p s)) None) (length s) ≡ place_of p s
    go (inl h) = rw (le-ltb (place_of p s) (length s) h) (omega (arith, place_within p s))
    go (inr h) = rw (lt-ltb (place_of p s) (length s) h) refl

pub place_found : (p : ℕ → Bool) (s : Text) (i : ℕ) → Some i ≡ position p s → i ≡ place_of p s
place_found p s i e = ap (λ (o : Option ℕ). unwrap_or o (length s)) e ∙ place_is p s

pub place_missing : (p : ℕ → Bool) (s : Text) → None ≡ position p s → length s ≡ place_of p s
place_missing p s e = ap (λ (o : Option ℕ). unwrap_or o (length s)) e ∙ place_is p s

-- ---- a text cut at a byte that passes
pub cut_length : (p : ℕ → Bool) (s rest : Text) → after p s ≡ Some rest → length (before p s) + suc (length rest) ≡ length s
unfolding before after
cut_length p [] rest e = absurd (search rules)
cut_length p (b ∷ s) rest e = go (p b) e (cut_length p s rest)
  where
    go : (t : Bool) → (if t then Some s else after p s) ≡ Some rest → (after p s ≡ Some rest → length (before p s) + suc (length rest) ≡ length s)
        → length (if t then [] else b ∷ before p s) + suc (length rest) ≡ suc (length s)
    go true e h = omega (arith, ap length (Some-injective _ _ e))
    go false e h = omega (arith, h e)

-- its parts, with others where there is none
pub cut_or : (p : ℕ → Bool) (s : Text) (o : Option (Bor Text × Bor Text)) (a b : Bor Text) {r : Bor Text × Bor Text} → r ≡ unwrap_or o (a, b) → a.now ≡ s
    → MatchOption o ((before p s ≡ s) × (after p s ≡ None)) (λ q. (before p s ≡ q.0.now) × (after p s ≡ Some q.1.now))
    → (before p s ≡ r.0.now) × ((after p s or b.now) ≡ r.1.now)
cut_or p s None a b d e (f, g) = (f ∙ sym e ∙ ap (λ (q : Bor Text × Bor Text). q.0.now) (sym d), ap (λ (o : Option Text). o or b.now) g ∙ ap (λ (q : Bor Text × Bor Text). q.1.now) (sym d))
cut_or p s (Some q) a b d e (f, g) = (f ∙ ap (λ (q : Bor Text × Bor Text). q.0.now) (sym d), ap (λ (o : Option Text). o or b.now) g ∙ ap (λ (q : Bor Text × Bor Text). q.1.now) (sym d))
