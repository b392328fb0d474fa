-- Runs of numbers, and what is kept and taken of them: they rise, and hold what each number of the run does. Assumes nothing.
use Rattle.std.specs.Prelude.{if◌then◌else◌}
use Rattle.std.proofs.Common.{◌≡◌, ℕ, zero, suc, ◌+◌, ◌<◌, ◌≤◌, Bool, true, false, ltb, List, [], ◌∷◌, length, take, refl, ap, suc-add, arith, lt-ltb}
use Rattle.definition.specs.Base.{keep, count}
use Rattle.definition.specs.Format.{rises}
use Rattle.laws.specs.Each.{Each, empty, next, each_take}
use Rattle.calendar_days.proofs.New.{rises_tail, all_above}

-- ---- each

pub each_count : {P : ℕ → Type 0} (a n : ℕ) → ((k : ℕ) → a ≤ k → k < a + n → P k) → Each P (count a n)
unfolding count
each_count a zero h = empty
each_count a (suc n) h = next (h a (omega arith) (omega arith)) (each_count (suc a) n (λ k l u. h k (omega arith) (omega arith)))

pub each_kept : {P Q : ℕ → Type 0} (p : ℕ → Bool) → ((k : ℕ) → P k → p k ≡ true → Q k) → {l : List ℕ} → Each P l → Each Q (keep p l)
unfolding keep
each_kept p h empty = empty
each_kept {P} {Q} p h (next {x = x} {l = l} k e) = by_test (p x) refl (each_kept p h e)
  where
    by_test : (t : Bool) → p x ≡ t → Each Q (keep p l) → Each Q (if t then x ∷ keep p l else keep p l)
    by_test true z r = next (h x k z) r
    by_test false z r = r

pub kept_length : (p : ℕ → Bool) (l : List ℕ) → length (keep p l) ≤ length l
unfolding keep
kept_length p [] = omega arith
kept_length p (x ∷ l) = by_test (p x) (kept_length p l)
  where
    by_test : (t : Bool) → length (keep p l) ≤ length l → length (if t then x ∷ keep p l else keep p l) ≤ suc (length l)
    by_test true r = omega arith
    by_test false r = omega arith

pub count_length : (a n : ℕ) → length (count a n) ≡ n
unfolding count
count_length a zero = refl
count_length a (suc n) = ap suc (count_length (suc a) n)

-- ---- rising

rise : (x : ℕ) (l : List ℕ) → Each (λ y. x < y) l → rises ltb l ≡ true → rises ltb (x ∷ l) ≡ true
unfolding rises
rise x [] e h = refl
rise x (y ∷ l) (next k e) h = rw (lt-ltb x y k) h

above : (x : ℕ) (l : List ℕ) → rises ltb (x ∷ l) ≡ true → Each (λ y. x < y) l
above x l h = all_above (λ (k : ℕ). k) x l h

pub rises_count : (a n : ℕ) → rises ltb (count a n) ≡ true
unfolding count rises
rises_count a zero = refl
rises_count a (suc n) = rise a (count (suc a) n) (each_count (suc a) n (λ k l u. omega arith)) (rises_count (suc a) n)

pub rises_keep : (p : ℕ → Bool) (l : List ℕ) → rises ltb l ≡ true → rises ltb (keep p l) ≡ true
unfolding keep rises
rises_keep p [] h = refl
rises_keep p (x ∷ l) h = by_test (p x) (rises_keep p l (rises_tail ltb x l h))
  where
    by_test : (t : Bool) → rises ltb (keep p l) ≡ true → rises ltb (if t then x ∷ keep p l else keep p l) ≡ true
    by_test true r = rise x (keep p l) (each_kept p (λ k u z. u) (above x l h)) r
    by_test false r = r

pub rises_take : (n : ℕ) (l : List ℕ) → rises ltb l ≡ true → rises ltb (take n l) ≡ true
unfolding rises
rises_take zero l h = refl
rises_take (suc n) [] h = refl
rises_take (suc n) (x ∷ l) h = rise x (take n l) (each_take n (above x l h)) (rises_take n l (rises_tail ltb x l h))

-- ---- the first of a run that all pass the test

pub first_run : (p : ℕ → Bool) (n k a : ℕ) → ((d : ℕ) → a ≤ d → d < a + n → p d ≡ true) → take n (keep p (count a (n + k))) ≡ count a n
unfolding keep count
first_run p zero k a h = refl
first_run p (suc n) k a h = rw (suc-add n k, h a (omega arith) (omega arith)) (ap (λ (l : List ℕ). a ∷ l) (first_run p n k (suc a) (λ d l u. h d (omega arith) (omega arith))))
