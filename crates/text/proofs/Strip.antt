-- One turn of each loop that takes white space away. Assumes nothing.
use mathlib.Core.Path.{◌≡◌, refl, sym, ap, ◌∙◌}
use mathlib.Core.List.{[], ◌∷◌, reverse, reverse-reverse}
use mathlib.Core.Bool.{true, false, and-false}
use Prim.Native.Nat.{ℕ, zero, suc, ◌+◌, ◌-◌, ◌≤◌, ◌<◌}
use native.Mathlib.Omega.{arith}
use lib.Dec.{leb}
use lib.ListN.{length, take, drop, get_or, length-drop, length-take, length-reverse}
use lib.Seq.{drop-nil}
use borrow.Author.Tests.{leb-true, lt-leb, ne_eqb}
use Rattle.definition.specs.Base.{within}
use Rattle.definition.specs.Text.{Text, white1, white2, white3, front_width, back_width, strip, trim_front, trim_back}
use Rattle.text.specs.Parts.{all_of}
use Rattle.text.proofs.Reversed.{get_d_reverse, drop_reverse}
use Rattle.laws.specs.Bools.{and_left, and_right}

-- how many bytes are taken away at the front, at the back
abbrev head_width : (ℕ → ℕ → ℕ → ℕ) → Text → ℕ
head_width width s = width (get_or s 0 0) (get_or s 1 0) (get_or s 2 0)

abbrev front_of : Text → ℕ
front_of s = head_width front_width s

abbrev back_of : Text → ℕ
back_of s = head_width back_width (reverse s)

-- ---- taking away, whatever a width is

module _ (width : ℕ → ℕ → ℕ → ℕ) where
  abbrev stripped : Text → Text
  stripped s = strip width (length s) s

  strip_stop : (n : ℕ) (s : Text) → head_width width s ≡ 0 → strip width n s ≡ s
  unfolding strip
  strip_stop zero s e = refl
  strip_stop (suc n) s e = ap (λ (w : ℕ). strip width n (drop w s)) e ∙ strip_stop n s e

  strip_nil : (n : ℕ) → strip width n [] ≡ []
  unfolding strip
  strip_nil zero = refl
  strip_nil (suc n) = ap (strip width n) (drop-nil (width 0 0 0)) ∙ strip_nil n

  -- as many times as there are bytes is enough
  enough : (n m : ℕ) (s : Text) → length s ≤ n → length s ≤ m → strip width n s ≡ strip width m s
  unfolding strip
  enough zero m [] h k = sym (strip_nil m)
  enough zero m (x ∷ s) h k = absurd (omega arith)
  enough (suc n) zero [] h k = strip_nil (suc n)
  enough (suc n) zero (x ∷ s) h k = absurd (omega arith)
  enough (suc n) (suc m) s h k = go (λ t. enough n m t) (head_width width s) refl
    where
      go : ((t : Text) → length t ≤ n → length t ≤ m → strip width n t ≡ strip width m t) → (w : ℕ) → head_width width s ≡ w
          → strip width n (drop w s) ≡ strip width m (drop w s)
      go less zero e = strip_stop n s e ∙ sym (strip_stop m s e)
      go less (suc w) e = less (drop (suc w) s) (simp length-drop (omega arith)) (simp length-drop (omega arith))

  once : (n : ℕ) (s : Text) → strip width (suc n) s ≡ strip width n (drop (head_width width s) s)
  unfolding strip
  once n s = refl

  strip_step : (s : Text) → stripped s ≡ stripped (drop (head_width width s) s)
  strip_step s = go (head_width width s) refl
    where
      go : (w : ℕ) → head_width width s ≡ w → stripped s ≡ stripped (drop w s)
      go zero e = refl
      go (suc w) e =
          enough (length s) (suc (length s)) s (omega arith) (omega arith)
          ∙ once (length s) s
          ∙ ap (λ (k : ℕ). strip width (length s) (drop k s)) e
          ∙ enough (length s) (length (drop (suc w) s)) (drop (suc w) s) (simp length-drop (omega arith)) (omega arith)

-- ---- the front

front_stop : (s : Text) → front_of s ≡ 0 → trim_front s ≡ s
unfolding trim_front
front_stop s e = strip_stop front_width (length s) s e

front_step : (s : Text) → trim_front s ≡ trim_front (drop (front_of s) s)
unfolding trim_front
front_step s = strip_step front_width s

-- ---- the back

back_as : (s : Text) → trim_back s ≡ reverse (stripped back_width (reverse s))
unfolding trim_back
back_as s = ap (λ (n : ℕ). reverse (strip back_width n (reverse s))) (sym (length-reverse s))

back_stop : (s : Text) → back_of s ≡ 0 → trim_back s ≡ s
back_stop s e = back_as s ∙ ap reverse (strip_stop back_width (length (reverse s)) (reverse s) e) ∙ reverse-reverse s

back_step : (s : Text) (m : ℕ) → back_of s + m ≡ length s → trim_back s ≡ trim_back (take m s)
back_step s m e =
    back_as s
    ∙ ap reverse (strip_step back_width (reverse s))
    ∙ ap (λ (z : Text). reverse (stripped back_width z)) (drop_reverse s (back_of s) m e)
    ∙ sym (back_as (take m s))

-- ---- a byte that neither begins nor ends white space

plain_low : (a : ℕ) → within 33 127 a ≡ true → 33 ≤ a
plain_low a h = leb-true 33 a (and_left (leb 33 a) (leb a 127) h)

plain_high : (a : ℕ) → within 33 127 a ≡ true → a ≤ 127
plain_high a h = leb-true a 127 (and_right (leb 33 a) (leb a 127) h)

module _ (a : ℕ) (low : 33 ≤ a) (high : a ≤ 127) where
  not_white1 : white1 a ≡ false
  not_white1 = simp (lt-leb a 13 (omega arith), ne_eqb a 32 (λ e. omega arith), and-false)

  plain_front : (b c : ℕ) → front_width a b c ≡ 0
  unfolding front_width
  plain_front b c =
      rw not_white1 (simp (ne_eqb a 0xC2 (λ e. omega arith), ne_eqb a 0xE1 (λ e. omega arith), ne_eqb a 0xE2 (λ e. omega arith), ne_eqb a 0xE3 (λ e. omega arith)))

  plain_back : (b c : ℕ) → back_width a b c ≡ 0
  unfolding back_width
  plain_back b c =
      rw not_white1
      (simp (
        ne_eqb a 0x85 (λ e. omega arith),
        ne_eqb a 0xA0 (λ e. omega arith),
        ne_eqb a 0x80 (λ e. omega arith),
        ne_eqb a 0xAF (λ e. omega arith),
        ne_eqb a 0x9F (λ e. omega arith),
        lt-leb 0x80 a (omega arith),
        lt-leb 0xA8 a (omega arith),
        and-false,
      ))

-- ---- where the text begins with no white space

front_clear : (s : Text) → (1 ≤ length s → white1 (get_or s 0 0) ≡ false) → (2 ≤ length s → white2 (get_or s 0 0) (get_or s 1 0) ≡ false)
    → (3 ≤ length s → white3 (get_or s 0 0) (get_or s 1 0) (get_or s 2 0) ≡ false) → front_of s ≡ 0
unfolding front_width
front_clear [] f g h = refl
front_clear (a ∷ []) f g h = rw (f (omega arith)) (simp and-false)
front_clear (a ∷ b ∷ []) f g h = rw (f (omega arith)) (rw (g (omega arith)) (simp and-false))
front_clear (a ∷ b ∷ c ∷ s) f g h = rw (f (omega arith)) (rw (g (omega arith)) (rw (h (omega arith)) refl))

back_clear : (s : Text) → (1 ≤ length s → white1 (get_or s 0 0) ≡ false) → (2 ≤ length s → white2 (get_or s 1 0) (get_or s 0 0) ≡ false)
    → (3 ≤ length s → white3 (get_or s 2 0) (get_or s 1 0) (get_or s 0 0) ≡ false) → head_width back_width s ≡ 0
unfolding back_width
back_clear [] f g h = refl
back_clear (a ∷ []) f g h = rw (f (omega arith)) refl
back_clear (a ∷ b ∷ []) f g h = rw (f (omega arith)) (rw (g (omega arith)) refl)
back_clear (a ∷ b ∷ c ∷ s) f g h = rw (f (omega arith)) (rw (g (omega arith)) (rw (h (omega arith)) refl))

-- ---- what the code reads

module _ (s : Text) where
  pub front_plain : within 33 127 (get_or s 0 0) ≡ true → trim_front s ≡ s
  front_plain h = front_stop s (plain_front (get_or s 0 0) (plain_low (get_or s 0 0) h) (plain_high (get_or s 0 0) h) _ _)

  pub front_none : (1 ≤ length s → white1 (get_or s 0 0) ≡ false) → (2 ≤ length s → white2 (get_or s 0 0) (get_or s 1 0) ≡ false)
      → (3 ≤ length s → white3 (get_or s 0 0) (get_or s 1 0) (get_or s 2 0) ≡ false) → trim_front s ≡ s
  front_none f g h = front_stop s (front_clear s f g h)

  front_some : (k : ℕ) → front_of s ≡ suc k → suc k ≤ length s
      → (trim_front (take (length s - suc k) (drop (suc k) s)) ≡ trim_front s) × (length (take (length s - suc k) (drop (suc k) s)) < length s)
  front_some k e fits =
      rw (all_of (suc k) s) (ap (λ (n : ℕ). trim_front (drop n s)) (sym e) ∙ sym (front_step s), omega (arith, length-drop (suc k) s))

  pub front_one : white1 (get_or s 0 0) ≡ true → 1 ≤ length s
      → (trim_front (take (length s - 1) (drop 1 s)) ≡ trim_front s) × (length (take (length s - 1) (drop 1 s)) < length s)
  unfolding front_width
  front_one e = front_some 0 (rw e refl)

  pub front_two : white1 (get_or s 0 0) ≡ false → white2 (get_or s 0 0) (get_or s 1 0) ≡ true → 2 ≤ length s
      → (trim_front (take (length s - 2) (drop 2 s)) ≡ trim_front s) × (length (take (length s - 2) (drop 2 s)) < length s)
  unfolding front_width
  front_two f e = front_some 1 (rw f (rw e refl))

  pub front_three : white1 (get_or s 0 0) ≡ false → white2 (get_or s 0 0) (get_or s 1 0) ≡ false
      → white3 (get_or s 0 0) (get_or s 1 0) (get_or s 2 0) ≡ true → 3 ≤ length s
      → (trim_front (take (length s - 3) (drop 3 s)) ≡ trim_front s) × (length (take (length s - 3) (drop 3 s)) < length s)
  unfolding front_width
  front_three f g e = front_some 2 (rw f (rw g (rw e refl)))

  -- the byte before the last k
  back_at : (k : ℕ) → suc k ≤ length s → get_or (reverse s) k 0 ≡ get_or s (length s - suc k) 0
  back_at k h = get_d_reverse s k (length s - suc k) (omega arith)

  pub back_plain : 1 ≤ length s → within 33 127 (get_or s (length s - 1) 0) ≡ true → trim_back s ≡ s
  back_plain l h =
      let a = get_or (reverse s) 0 0 in
      let h' = ap (within 33 127) (back_at 0 l) ∙ h in
      back_stop s (plain_back a (plain_low a h') (plain_high a h') _ _)

  pub back_none : (1 ≤ length s → white1 (get_or s (length s - 1) 0) ≡ false)
      → (2 ≤ length s → white2 (get_or s (length s - 2) 0) (get_or s (length s - 1) 0) ≡ false)
      → (3 ≤ length s → white3 (get_or s (length s - 3) 0) (get_or s (length s - 2) 0) (get_or s (length s - 1) 0) ≡ false) → trim_back s ≡ s
  back_none f g h =
      let n = length-reverse s in
      back_stop s (back_clear (reverse s)
      (λ l. rw (back_at 0 (omega arith)) (f (omega arith)))
      (λ l. rw (back_at 1 (omega arith), back_at 0 (omega arith)) (g (omega arith)))
      (λ l. rw (back_at 2 (omega arith), back_at 1 (omega arith), back_at 0 (omega arith)) (h (omega arith))))

  back_some : (k : ℕ) → back_of s ≡ suc k → suc k ≤ length s
      → (trim_back (take (length s - suc k) s) ≡ trim_back s) × (length (take (length s - suc k) s) < length s)
  back_some k e fits =
      (sym (back_step s (length s - suc k) (omega arith)), omega (arith, length-take (length s - suc k) s))

  pub back_one : white1 (get_or s (length s - 1) 0) ≡ true → 1 ≤ length s
      → (trim_back (take (length s - 1) s) ≡ trim_back s) × (length (take (length s - 1) s) < length s)
  unfolding back_width
  back_one e l = back_some 0 (rw (back_at 0 l) (rw e refl)) l

  pub back_two : white1 (get_or s (length s - 1) 0) ≡ false → white2 (get_or s (length s - 2) 0) (get_or s (length s - 1) 0) ≡ true → 2 ≤ length s
      → (trim_back (take (length s - 2) s) ≡ trim_back s) × (length (take (length s - 2) s) < length s)
  unfolding back_width
  back_two f e l = back_some 1 (rw (back_at 1 l, back_at 0 (omega arith)) (rw f (rw e refl))) l

  pub back_three : white1 (get_or s (length s - 1) 0) ≡ false → white2 (get_or s (length s - 2) 0) (get_or s (length s - 1) 0) ≡ false
      → white3 (get_or s (length s - 3) 0) (get_or s (length s - 2) 0) (get_or s (length s - 1) 0) ≡ true → 3 ≤ length s
      → (trim_back (take (length s - 3) s) ≡ trim_back s) × (length (take (length s - 3) s) < length s)
  unfolding back_width
  back_three f g e l = back_some 2 (rw (back_at 2 l, back_at 1 (omega arith), back_at 0 (omega arith)) (rw f (rw g (rw e refl)))) l
