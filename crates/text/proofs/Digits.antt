-- One turn of the loops over digits. Assumes nothing.
use Rattle.std.specs.Prelude.{if◌then◌else◌}
use mathlib.Core.Path.{◌≡◌, refl, ◌∙◌}
use mathlib.Core.List.{[], ◌∷◌}
use Rattle.std.specs.Prelude.{Option, Some, None}
use mathlib.Core.Bool.{Bool, true, false}
use Prim.Native.Nat.{ℕ, ◌+◌, ◌-◌, ◌*◌, ◌^◌, ◌≤◌, ◌<◌}
use native.Mathlib.Nat.{pow-suc, pow-le-pow_right, lt_of_lt_of_le, zero-lt-suc}
use native.Mathlib.Numerals.{add-one}
use native.Mathlib.Omega.{arith}
use lib.Dec.{leb}
use lib.ListN.{length, drop, get_or}
use borrow.Author.Tests.{leb-true, le-leb, lt-leb}
use Rattle.definition.specs.Text.{Text, is_digit, digits, digits_after}
use Rattle.definition.specs.Base.{◌>>=◌, when}
use Rattle.laws.specs.Bools.{and_right}
use Rattle.text.specs.Parts.{at_cons, at_end_lem}
use Rattle.text.specs.Whole.{up_to, digits_to, size_to}

-- what a byte is as a digit
abbrev digit_of : ℕ → Option ℕ
digit_of b = when (is_digit b) (b - 48)

pub digit_most : (b : ℕ) {k : ℕ} → Some k ≡ digit_of b → k ≤ 9
digit_most b {k} e = go (is_digit b) refl e
  where
    go : (x : Bool) → is_digit b ≡ x → Some k ≡ when x (b - 48) → k ≤ 9
    go true h e = let l = leb-true b 57 (and_right (leb 48 b) (leb b 57) h) in let q : k ≡ b - 48 = cc in omega arith
    go false h e = let z : ◌≡◌ {A = ℕ} 0 1 = cc in absurd (omega arith)

-- ---- as many digits as a number has places at most
pub grows : (n i d : ℕ) → n < 10 ^ i → d ≤ 9 → n * 10 + d < 10 ^ (i + 1)
grows n i d h k = rw (add-one i, pow-suc 10 i) (omega arith)

pub small : (n i : ℕ) → n < 10 ^ i → i ≤ 18 → n < 10 ^ 18
small n i h k = lt_of_lt_of_le h (pow-le-pow_right (zero-lt-suc 9) k)

-- ---- up to a largest number

module _ (most : ℕ) where
  past : (v : ℕ) (s : Text) → most < v → digits_to most v s ≡ None
  unfolding digits_to digits_after
  past v [] h = rw (lt-leb v most h)
  past v (b ∷ s) h = go (is_digit b) (past (v * 10 + (b - 48)) s (omega arith))
    where
      go : (x : Bool) → up_to most (digits_after (v * 10 + (b - 48)) s) ≡ None → up_to most (if x then digits_after (v * 10 + (b - 48)) s else None) ≡ None
      go true e = e
      go false e = refl

  pub size_nil : (s : Text) → length s ≡ 0 → size_to most s ≡ None
  unfolding size_to digits
  size_nil [] h = refl
  size_nil (b ∷ s) h = absurd (omega arith)

  pub size_some : (s : Text) → 0 < length s → size_to most s ≡ digits_to most 0 s
  unfolding size_to digits_to digits
  size_some [] h = absurd (omega arith)
  size_some (b ∷ s) h = refl

module _ (most : ℕ) (s : Text) (i v : ℕ) where
  -- one byte further on, by what it is as a digit
  pub next : i < length s → {d : Option ℕ} → d ≡ digit_of (get_or s i 0) → digits_to most v (drop i s) ≡ (d >>= λ k. digits_to most (v * 10 + k) (drop (i + 1) s))
  unfolding digits_to digits_after
  next h {d} e = rw (at_cons s i h, e) (go (is_digit (get_or s i 0)))
    where
      b : ℕ
      b = get_or s i 0

      t : Text
      t = drop (i + 1) s

      go : (x : Bool) → up_to most (if x then digits_after (v * 10 + (b - 48)) t else None) ≡ (when x (b - 48) >>= λ k. up_to most (digits_after (v * 10 + k) t))
      go true = refl
      go false = refl

  -- a number only grows with more digits, so that past the largest nothing need be read
  pub too_large : i < length s → most < v * 10 → digits_to most v (drop i s) ≡ None
  too_large h l = next h refl ∙ go (digit_of (get_or s i 0))
    where
      go : (d : Option ℕ) → (d >>= λ k. digits_to most (v * 10 + k) (drop (i + 1) s)) ≡ None
      go None = refl
      go (Some k) = past most (v * 10 + k) (drop (i + 1) s) (omega arith)

  pub past_next : (k : ℕ) → most < v * 10 + k → digits_to most (v * 10 + k) (drop (i + 1) s) ≡ None
  past_next k l = past most (v * 10 + k) (drop (i + 1) s) l

  pub at_end : length s ≤ i → digits_to most v (drop i s) ≡ when (leb v most) v
  unfolding digits_to digits_after
  at_end h = rw (at_end_lem s i h) refl

  pub all_read : length s ≤ i → v ≤ most → digits_to most v (drop i s) ≡ Some v
  all_read h l = at_end h ∙ rw (le-leb v most l) refl
