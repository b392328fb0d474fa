-- Texts with `*` behind them: their bytes. Assumes nothing.
use mathlib.Core.Path.{◌≡◌, refl, sym, ap, ◌∙◌}
use mathlib.Core.Bool.{Bool, true, false}
use mathlib.Core.List.{[], ◌∷◌}
use Prim.Native.Nat.{ℕ, zero, suc, ◌+◌, ◌≤◌, ◌<◌}
use native.Mathlib.Omega.{arith}
use lib.ListN.{length, drop, get_or, get_or-replicate}
use lib.Dec.{eqb}
use Rattle.std.proofs.Common.{◌⊎◌, inl, inr}
use Rattle.std.specs.List.{list_all, find, range_with_len}
use Rattle.std.specs.Option.{unwrap_or, option_map}
use Rattle.std.specs.Prelude.{if◌then◌else◌, not, Option, Some, None}
use Rattle.std.proofs.lemmas.Bool.Decides.{eqb_tells}
use Rattle.definition.specs.Base.{same}
use Rattle.definition.specs.Text.{Text}
use Rattle.pack.specs.Value.{starred_by}
use Rattle.text.proofs.Equal.{same_lengths, same_off, same_on, same_end}
use Rattle.names.specs.Stars.{star_length, star_none, tries}

star_byte : (s : Text) (k i : ℕ) → i < length s + k → get_or (starred_by s k) i 0 ≡ get_or s i 42
star_byte [] k i h = get_or-replicate k i 42 0 (omega arith)
star_byte (x ∷ s) k zero h = refl
star_byte (x ∷ s) k (suc i) h = star_byte s k i (omega arith)

module _ (a b : Text) (m n : ℕ) where
  abbrev left_text : Text
  left_text = starred_by a m

  abbrev right_text : Text
  right_text = starred_by b n

  pub other_lengths : (length a + m ≡ length b + n → ⊥) → false ≡ same left_text right_text
  other_lengths h = sym (same_lengths left_text right_text (λ e. h (sym (star_length a m) ∙ e ∙ star_length b n)))

  module _ (e : length a + m ≡ length b + n) (i : ℕ) where
    other_byte : i < length a + m → (get_or a i 42 ≡ get_or b i 42 → ⊥) → same (drop i left_text) (drop i right_text) ≡ false
    other_byte h d =
        same_off left_text right_text i (omega (arith, star_length a m)) (omega (arith, star_length b n))
        (λ z. d (sym (star_byte a m i h) ∙ z ∙ star_byte b n i (omega arith)))

    same_byte : i < length a + m → get_or a i 42 ≡ get_or b i 42 → same (drop i left_text) (drop i right_text) ≡ same (drop (i + 1) left_text) (drop (i + 1) right_text)
    same_byte h d =
        same_on left_text right_text i (omega (arith, star_length a m)) (omega (arith, star_length b n))
        (star_byte a m i h ∙ d ∙ sym (star_byte b n i (omega arith)))

    all_bytes : length a + m ≤ i → same (drop i left_text) (drop i right_text) ≡ true
    all_bytes h = same_end left_text right_text i (omega (arith, star_length a m)) (omega (arith, star_length b n))

  -- whether they are the same from a byte on
  module _ (e : length a + m ≡ length b + n) where
    abbrev pub same_at : ℕ → Bool
    same_at i = eqb (get_or a i 42) (get_or b i 42)

    pub all_same : (k i : ℕ) → i + k ≡ length a + m → list_all same_at (range_with_len i k) ≡ same (drop i left_text) (drop i right_text)
    all_same zero i h = sym (all_bytes e i (omega arith))
    all_same (suc k) i h = by (eqb_tells (get_or a i 42) (get_or b i 42)) (all_same k (suc i) (omega arith))
      where
        z : i + 1 ≡ suc i
        z = omega arith

        by : ((same_at i ≡ true) × (get_or a i 42 ≡ get_or b i 42)) ⊎ ((same_at i ≡ false) × (get_or a i 42 ≡ get_or b i 42 → ⊥)) → list_all same_at (range_with_len (suc i) k) ≡ same (drop (suc i) left_text) (drop (suc i) right_text)
            → list_all same_at (range_with_len i (suc k)) ≡ same (drop i left_text) (drop i right_text)
        by (inl y) f = rw (y.0, z) (f ∙ ap (λ (j : ℕ). same (drop j left_text) (drop j right_text)) (sym z) ∙ sym (same_byte e i (omega arith) y.1))
        by (inr y) f = rw y.0 (sym (other_byte e i (omega arith) y.1))

-- a text with no `*` was compared
pub seen_text : (t : Text) {x y z : Text} {r b : Bool} → r ≡ same t (starred_by x 0) → x ≡ y → y ≡ z → r ≡ b → same t z ≡ b
seen_text t {x} e h i k = ap (same t) (sym (star_none x ∙ h ∙ i)) ∙ sym e ∙ k

-- the first of the numbers from i on that does not pass, or the one behind them
find_tries : (p : ℕ → Bool) (k i : ℕ) → unwrap_or (find (λ j. not (p j)) (range_with_len i k)) (i + k) ≡ tries k p i
unfolding tries
find_tries p zero i = omega arith
find_tries p (suc k) i = by (p i) refl (find_tries p k (suc i))
  where
    by : (b : Bool) → p i ≡ b → unwrap_or (find (λ j. not (p j)) (range_with_len (suc i) k)) (suc i + k) ≡ tries k p (suc i)
        → unwrap_or (find (λ j. not (p j)) (range_with_len i (suc k))) (i + suc k) ≡ (if p i then tries k p (suc i) else i)
    by true e h = let z : i + suc k ≡ suc i + k = omega arith in let y : i + 1 ≡ suc i = omega arith in rw (e, y, z) h
    by false e h = rw e

pub found_tries : (p : ℕ → Bool) (k i : ℕ) (o : Option ℕ) → option_map (λ x. x) o ≡ find (λ j. not (p j)) (range_with_len i k) → {m : ℕ} → m ≡ i + k → unwrap_or o m ≡ tries k p i
found_tries p k i None h e = rw e (ap (λ (o : Option ℕ). unwrap_or o (i + k)) h ∙ find_tries p k i)
found_tries p k i (Some x) h e = ap (λ (o : Option ℕ). unwrap_or o (i + k)) h ∙ find_tries p k i
