-- Whole numbers read digit by digit: a size behind a sign, at most the largest that the sign has in a type of w bits, and what it is there. Assumes nothing.
use Rattle.std.specs.Prelude.{◌≡◌, refl, Bool, true, false, ℕ, suc, ◌-◌, ◌^◌, ◌<◌, leb, ltb, ℤ, pos, neg_ℤ, drop}
use Rattle.std.proofs.Common.{ap, arith, leb-false}
use Rattle.std.proofs.lemmas.Bool.{lt-leb}
use Rattle.std.specs.Prelude.{Option, Some, None}
use Rattle.definition.specs.Base.{◌>>=◌, when}
use Rattle.definition.specs.Text.{Text, Sign, plus, minus, bare, sign_of, digits, digits_after, unsigned_by, signed_by, unsigned_of, signed_of}
use Rattle.definition.specs.Number.{unsigned}
use Rattle.text.specs.Signs.{minus?}

-- the number, where it is at most `most`
abbrev pub up_to : ℕ → Option ℕ → Option ℕ
up_to most o = o >>= λ n. when (leb n most) n

-- the digits s written after those of v, of a number that is at most `most`
unfoldable pub digits_to : ℕ → ℕ → Text → Option ℕ
digits_to most v s = up_to most (digits_after v s)

unfoldable pub size_to : ℕ → Text → Option ℕ
size_to most s = up_to most (digits s)

-- the largest size behind a `-` or none, in an unsigned type of w bits, and in a signed one
abbrev pub unsigned_most : ℕ → Bool → Option ℕ
unsigned_most w true = None
unsigned_most w false = Some (2 ^ w - 1)

abbrev pub signed_most : ℕ → Bool → Option ℕ
signed_most w true = Some (2 ^ (w - 1))
signed_most w false = Some (2 ^ (w - 1) - 1)

-- what a size is behind a `-` or none
abbrev pub unsigned_sized : ℕ → Bool → ℕ → Option ℕ
unsigned_sized w m n = when (ltb n (2 ^ w)) n

abbrev pub signed_sized : ℕ → Bool → ℕ → Option ℤ
signed_sized w true n = when (leb n (2 ^ (w - 1))) (neg_ℤ (pos n))
signed_sized w false n = when (ltb n (2 ^ (w - 1))) (pos n)

abbrev pub whole_by : {A : Type 0} → (Bool → Option ℕ) → (Bool → ℕ → Option A) → Text → Option A
whole_by most sized s = most (minus? (sign_of s)) >>= λ m. size_to m (unsigned (sign_of s) s) >>= sized (minus? (sign_of s))

-- ---- a size past the largest is no number

module _ {A : Type 0} (m : ℕ) (f : ℕ → Option A) (past : (n : ℕ) → m < n → f n ≡ None) where
  small : (o : Option ℕ) → (o >>= f) ≡ (up_to m o >>= f)
  small None = refl
  small (Some n) = go (leb n m) refl
    where
      go : (b : Bool) → leb n m ≡ b → f n ≡ (when b n >>= f)
      go true e = refl
      go false e = past n (leb-false n m e)

module _ (w : ℕ) where
  unsigned_past : (n : ℕ) → 2 ^ w - 1 < n → unsigned_sized w false n ≡ None
  unsigned_past n h = ap (λ (b : Bool). when b n) (lt-leb (suc n) (2 ^ w) (omega arith))

  pub unsigned_reads : (s : Text) → unsigned_of w s ≡ whole_by (unsigned_most w) (unsigned_sized w) s
  unfolding unsigned_of size_to
  unsigned_reads s = go (sign_of s)
    where
      go : (x : Sign) → unsigned_by x w s ≡ (unsigned_most w (minus? x) >>= λ m. up_to m (digits (unsigned x s)) >>= unsigned_sized w (minus? x))
      go plus = small (2 ^ w - 1) (unsigned_sized w false) unsigned_past (digits (drop 1 s))
      go minus = refl
      go bare = small (2 ^ w - 1) (unsigned_sized w false) unsigned_past (digits s)

  positive_past : (n : ℕ) → 2 ^ (w - 1) - 1 < n → signed_sized w false n ≡ None
  positive_past n h = ap (λ (b : Bool). when b (pos n)) (lt-leb (suc n) (2 ^ (w - 1)) (omega arith))

  negative_past : (n : ℕ) → 2 ^ (w - 1) < n → signed_sized w true n ≡ None
  negative_past n h = ap (λ (b : Bool). when b (neg_ℤ (pos n))) (lt-leb n (2 ^ (w - 1)) (omega arith))

  pub signed_reads : (s : Text) → signed_of w s ≡ whole_by (signed_most w) (signed_sized w) s
  unfolding signed_of size_to
  signed_reads s = go (sign_of s)
    where
      go : (x : Sign) → signed_by x w s ≡ (signed_most w (minus? x) >>= λ m. up_to m (digits (unsigned x s)) >>= signed_sized w (minus? x))
      go plus = small (2 ^ (w - 1) - 1) (signed_sized w false) positive_past (digits (drop 1 s))
      go minus = small (2 ^ (w - 1)) (signed_sized w true) negative_past (digits (drop 1 s))
      go bare = small (2 ^ (w - 1) - 1) (signed_sized w false) positive_past (digits s)
