-- Texts with `*` behind them, and the first that is free. Assumes nothing.
use Rattle.std.specs.Prelude.{if◌then◌else◌, ◌≡◌, Bool, List, [], ◌∷◌, ◌++◌, length, take, replicate}
use Rattle.std.proofs.Math.Path.{refl, sym}
use Rattle.std.proofs.Common.{ap, ◌∙◌, true≢false, append_assoc, append-nil, take_at}
use Rattle.std.proofs.Math.Bool.{true, false}
use Prim.Native.Nat.{ℕ, zero, suc, ◌+◌, ◌-◌, ◌≤◌, ◌<◌}
use Rattle.std.proofs.Math.Nat.{sub-zero}
use native.Mathlib.Omega.{arith}
use Rattle.std.proofs.Math.Decide.{dec_lt}
use Rattle.definition.specs.Base.{same, some?}
use Rattle.definition.specs.Text.{Text}
use Rattle.definition.specs.Calendar.{starred, free}
use Rattle.laws.specs.FitNames.{free_shape}
use Rattle.laws.proofs.FitNames.{free_new}
use Rattle.pack.specs.Value.{starred_by}
pub use Rattle.laws.specs.Stars.{star_length}

pub star_none : (s : Text) → starred_by s 0 ≡ s
star_none s = append-nil s

-- as many behind each
pub star_same : (a b : Text) (k : ℕ) → starred_by a k ≡ starred_by b k → a ≡ b
star_same a b k e =
    let n : length a ≡ length b = omega (arith, star_length a k, star_length b k, ap length e) in
    sym (take_at a (replicate k 42) (length b) n) ∙ ap (take (length b)) e ∙ take_at b (replicate k 42) (length b) refl

pub star_many : (s : Text) (j k : ℕ) → starred_by s j ≡ starred_by s k → j ≡ k
star_many s j k e = omega (arith, star_length s j, star_length s k, ap length e)

abbrev star : Text
star = 42 ∷ []

replicate_more : (k : ℕ) → replicate k 42 ++ star ≡ replicate (suc k) 42
replicate_more zero = refl
replicate_more (suc k) = ap (λ (l : List ℕ). 42 ∷ l) (replicate_more k)

star_more : (s : Text) (k : ℕ) → starred_by s k ++ star ≡ starred_by s (suc k)
star_more s k = append_assoc s (replicate k 42) star ∙ ap (λ (l : List ℕ). s ++ l) (replicate_more k)

-- ---- the first that is free

star_step : (k : ℕ) (names : List Text) (n : Text) → starred (suc k) names n ≡ if some? (same n) names then starred k names (n ++ star) else n
unfolding starred
star_step k names n = refl

star_enough : (names : List Text) (n : Text) → starred 0 names n ≡ n
unfolding starred
star_enough names n = refl

-- so many `*` were tried, and so many are left
abbrev pub Tried : List Text → Text → ℕ → ℕ → Type 0
Tried names n count k = starred count names n ≡ starred (count - k) names (starred_by n k)

module _ (names : List Text) (n : Text) (count : ℕ) where
  pub tried_none : Tried names n count 0
  tried_none = rw (star_none n, sub-zero)

  module _ (k : ℕ) (t : Tried names n count k) where
    pub tried_more : k < count → some? (same (starred_by n k)) names ≡ true → Tried names n count (k + 1)
    tried_more h e =
        let z : count - k ≡ suc (count - (k + 1)) = omega arith in
        let y : k + 1 ≡ suc k = omega arith in
        t ∙ rw z (star_step (count - (k + 1)) names (starred_by n k) ∙ rw (e, star_more n k, y))

    pub tried_free : k < count → some? (same (starred_by n k)) names ≡ false → starred_by n k ≡ starred count names n
    tried_free h e =
        let z : count - k ≡ suc (count - (k + 1)) = omega arith in
        sym (t ∙ rw z (star_step (count - (k + 1)) names (starred_by n k) ∙ rw e))

    pub tried_all : count ≤ k → starred_by n k ≡ starred count names n
    tried_all h =
        let z : count - k ≡ 0 = omega arith in
        sym (t ∙ rw z (star_enough names (starred_by n k)))

-- ---- those that are taken

-- the name with fewer than k `*` is one of the names
abbrev pub TakenTo : List Text → Text → ℕ → Type 0
TakenTo names n k = (j : ℕ) → j < k → some? (same (starred_by n j)) names ≡ true

module _ (names : List Text) (n : Text) where
  abbrev count : ℕ
  count = length names

  tried_to : (k : ℕ) → TakenTo names n k → k ≤ count → Tried names n count k
  tried_to zero t h = tried_none names n count
  tried_to (suc k) t h =
      let z : k + 1 ≡ suc k = omega arith in
      rw z at (tried_more names n count k (tried_to k (λ j l. t j (omega arith)) (omega arith)) (omega arith) (t k (omega arith)))

  -- fewer than there are names
  taken_few : (k : ℕ) → TakenTo names n k → k ≤ count
  taken_few k t =
      let s = free_shape names n in
      by (dec_lt s.stars k) s.few (sym (ap (λ (m : Text). some? (same m) names) s.is) ∙ free_new names n)
    where
      by : {s : ℕ} → Dec (s < k) → s ≤ count → some? (same (starred_by n s)) names ≡ false → k ≤ count
      by {s} (yes h) l f = absurd (true≢false (sym (t s h) ∙ f))
      by {s} (no h) l f = omega arith

  -- below the first that is free all are taken
  module _ (k : ℕ) (e : starred_by n k ≡ free names n) where
    here_taken : (j : ℕ) → j < k → TakenTo names n j → some? (same (starred_by n j)) names ≡ true
    here_taken j h t = by (some? (same (starred_by n j)) names) refl (dec_lt j count)
      where
        tried : Tried names n count j
        tried = tried_to j t (taken_few j t)

        not_here : starred_by n j ≡ starred count names n → {b : Bool} → b ≡ true
        not_here f = let z = star_many n j k (f ∙ sym e) in absurd (omega arith)

        by : (b : Bool) → some? (same (starred_by n j)) names ≡ b → Dec (j < count) → b ≡ true
        by true f d = refl
        by false f (yes l) = not_here (tried_free names n count j tried l f)
        by false f (no l) = not_here (tried_all names n count j tried (omega arith))

    taken_up : (j : ℕ) → j ≤ k → TakenTo names n j
    taken_up zero h i l = absurd (omega arith)
    taken_up (suc j) h i l = by (dec_lt i j) (taken_up j (omega arith))
      where
        by : Dec (i < j) → TakenTo names n j → some? (same (starred_by n i)) names ≡ true
        by (yes m) t = t i m
        by (no m) t = let z : i ≡ j = omega arith in rw z (here_taken j (omega arith) t)

    pub taken_free : TakenTo names n k
    taken_free = taken_up k (omega arith)

-- ---- tried one after another

-- from k on, the first that does not pass, so many tries at most
unfoldable pub tries : ℕ → (ℕ → Bool) → ℕ → ℕ
tries zero p k = k
tries (suc f) p k = if p k then tries f p (suc k) else k

module _ (names : List Text) (n : Text) (p : ℕ → Bool) (is : (k : ℕ) → p k ≡ some? (same (starred_by n k)) names) where
  tries_are : (f k : ℕ) → starred_by n (tries f p k) ≡ starred f names (starred_by n k)
  unfolding tries
  tries_are zero k = sym (star_enough names (starred_by n k))
  tries_are (suc f) k = by (p k) (is k) (tries_are f (suc k))
    where
      by : (b : Bool) → b ≡ some? (same (starred_by n k)) names → starred_by n (tries f p (suc k)) ≡ starred f names (starred_by n (suc k))
          → starred_by n (if b then tries f p (suc k) else k) ≡ starred (suc f) names (starred_by n k)
      by true e h = h ∙ sym (star_step f names (starred_by n k) ∙ rw (← e, star_more n k))
      by false e h = sym (star_step f names (starred_by n k) ∙ rw (← e))

  -- where all before k are taken, one may begin there
  pub tries_free : (k : ℕ) → TakenTo names n k → starred_by n (tries (length names - k) p k) ≡ free names n
  tries_free k t = tries_are (length names - k) k ∙ sym (tried_to names n k t (taken_few names n k t))

-- where the next of those below a number passes, where it does not, and the end
module _ (count : ℕ) (p : ℕ → Bool) (k : ℕ) where
  pub tries_on : k < count → p k ≡ true → tries (count - k) p k ≡ tries (count - (k + 1)) p (k + 1)
  unfolding tries
  tries_on h e =
      let z : count - k ≡ suc (count - (k + 1)) = omega arith in
      let y : k + 1 ≡ suc k = omega arith in
      rw (z, e, y)

  pub tries_here : p k ≡ false → tries (count - k) p k ≡ k
  unfolding tries
  tries_here e = by (count - k)
    where
      by : (f : ℕ) → tries f p k ≡ k
      by zero = refl
      by (suc f) = rw e

  pub tries_end : count ≤ k → tries (count - k) p k ≡ k
  unfolding tries
  tries_end h = let z : count - k ≡ 0 = omega arith in rw z
