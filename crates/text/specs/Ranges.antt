-- Whole numbers up to a largest one: what the range of a type of w bits comes to, its width left out. For whoever cites it: whole_of goes by Whole.antt. Assumes nothing.
use Rattle.std.specs.Prelude.{◌≡◌, refl, Bool, true, false, ℕ, zero, suc, ◌+◌, ◌-◌, ◌^◌, ◌≤◌, leb, ltb, ℤ, pos, negsuc, neg_ℤ, drop}
use Rattle.std.proofs.Common.{sym, ap, ◌∙◌, add-one, arith, leb-true}
use Rattle.std.proofs.Math.Dec.{leb-suc-suc}
use Rattle.std.specs.Prelude.{Option, Some, None}
use Rattle.definition.specs.Base.{◌>>=◌, when}
use Rattle.definition.specs.Text.{Text, Sign, plus, minus, bare, sign_of, digits, signed_by, signed_of}
use Rattle.text.specs.Whole.{up_to, size_to}

abbrev pub signed : (ℕ → ℤ) → Option ℕ → Option ℤ
signed f o = o >>= λ n. Some (f n)

abbrev pub minus_of : ℕ → ℤ
minus_of n = neg_ℤ (pos n)

-- at most `most`, at least -(most + 1)
abbrev pub signed_under : Sign → ℕ → Text → Option ℤ
signed_under plus most s = signed pos (size_to most (drop 1 s))
signed_under minus most s = signed minus_of (size_to (most + 1) (drop 1 s))
signed_under bare most s = signed pos (size_to most s)

unfoldable pub signed_to : ℕ → Text → Option ℤ
signed_to most s = signed_under (sign_of s) most s

-- ---- the range of a type of w bits: each number up to its largest, and no other

pub below : (w most : ℕ) → 2 ^ w ≡ suc most → (n : ℕ) → ltb n (2 ^ w) ≡ leb n most
below w most full n = ap (leb (suc n)) full ∙ leb-suc-suc n most

module _ (w most : ℕ) (half : 2 ^ (w - 1) ≡ suc most) where
  up_range : (o : Option ℕ) → (o >>= λ n. when (ltb n (2 ^ (w - 1))) (pos n)) ≡ signed pos (up_to most o)
  up_range None = refl
  up_range (Some n) = ap (λ (b : Bool). when b (pos n)) (below (w - 1) most half n) ∙ go (leb n most)
    where
      go : (b : Bool) → when b (pos n) ≡ signed pos (when b n)
      go true = refl
      go false = refl

  down_range : (o : Option ℕ) → (o >>= λ n. when (leb n (2 ^ (w - 1))) (neg_ℤ (pos n))) ≡ signed minus_of (up_to (most + 1) o)
  down_range None = refl
  down_range (Some n) =
      ap (λ (k : ℕ). when (leb n k) (neg_ℤ (pos n))) (half ∙ sym (add-one most)) ∙ go (leb n (most + 1))
    where
      go : (b : Bool) → when b (neg_ℤ (pos n)) ≡ signed minus_of (when b n)
      go true = refl
      go false = refl

  pub signed_to_lem : (s : Text) → signed_of w s ≡ signed_to most s
  unfolding signed_of signed_to size_to
  signed_to_lem s = go (sign_of s)
    where
      go : (x : Sign) → signed_by x w s ≡ signed_under x most s
      go plus = up_range (digits (drop 1 s))
      go minus = down_range (digits (drop 1 s))
      go bare = up_range (digits s)

-- ---- an answer lies in its range

pub at_most : (most n : ℕ) (o : Option ℕ) → Some n ≡ up_to most o → n ≤ most
at_most most n None e = let z : ◌≡◌ {A = ℕ} 0 1 = cc in absurd (omega arith)
at_most most n (Some m) e = go (leb m most) refl e
  where
    go : (b : Bool) → leb m most ≡ b → Some n ≡ when b m → n ≤ most
    go true h k = let q : n ≡ m = cc in let l = leb-true m most h in omega arith
    go false h k = let z : ◌≡◌ {A = ℕ} 0 1 = cc in absurd (omega arith)

not_down : (n : ℕ) (o : Option ℕ) → Some (negsuc n) ≡ signed pos o → ⊥
not_down n None e = let z : ◌≡◌ {A = ℕ} 0 1 = cc in omega arith
not_down n (Some m) e = let z : ◌≡◌ {A = ℕ} 0 1 = cc in omega arith

down_of : (n : ℕ) (o : Option ℕ) → Some (negsuc n) ≡ signed minus_of o → Some (suc n) ≡ o
down_of n None e = let z : ◌≡◌ {A = ℕ} 0 1 = cc in absurd (omega arith)
down_of n (Some zero) e = let z : ◌≡◌ {A = ℕ} 0 1 = cc in absurd (omega arith)
down_of n (Some (suc m)) e = let z : n ≡ m = cc in ap (λ (k : ℕ). Some (suc k)) z

pub signed_least : (most n : ℕ) (s : Text) → Some (negsuc n) ≡ signed_to most s → n ≤ most
unfolding signed_to size_to
signed_least most n s e = go (sign_of s) e
  where
    go : (x : Sign) → Some (negsuc n) ≡ signed_under x most s → n ≤ most
    go plus h = absurd (not_down n (up_to most (digits (drop 1 s))) h)
    go minus h = let z = at_most (most + 1) (suc n) (digits (drop 1 s)) (down_of n (up_to (most + 1) (digits (drop 1 s))) h) in omega arith
    go bare h = absurd (not_down n (up_to most (digits s)) h)
