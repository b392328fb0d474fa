-- One value from an index on, one at a time. Assumes nothing.
use mathlib.Core.Path.{◌≡◌, sym, ap, ◌∙◌}
use mathlib.Core.List.{List, ◌∷◌, ◌++◌, append_assoc, []}
use Prim.Native.Nat.{ℕ, suc, ◌+◌, ◌-◌, ◌≤◌, ◌<◌}
use native.Mathlib.Numerals.{add-one}
use native.Mathlib.Omega.{arith}
use lib.ListN.{length, take, drop, get_or, set, replicate, length-append, length-replicate, replicate-append-replicate}
use lib.Seq.{drop-cons, set_at, length-take-le}

module _ {A : Type 0} (n : ℕ) (x : A) (s : List A) where
  -- on the way: up to i
  abbrev pub filling : ℕ → List A
  filling i = take n s ++ (replicate (i - n) x ++ drop i s)

  pub fill_more : (i : ℕ) (s' : List A) → n ≤ i → i < length s → s' ≡ filling i → set s' i x ≡ filling (i + 1)
  fill_more i s' h k e =
      let p = take n s ++ replicate (i - n) x in
      let l : length p ≡ i = length-append (take n s) (replicate (i - n) x) ∙ (omega (arith, length-take-le n s (omega arith), length-replicate (i - n) x)) in
      let d : i + 1 - n ≡ i - n + 1 = omega arith in
      let one : replicate (i - n) x ++ (x ∷ []) ≡ replicate (i + 1 - n) x = rw d (replicate-append-replicate (i - n) 1 x) in
      let w : s' ≡ p ++ (get_or s i x ∷ drop (suc i) s) = e ∙ rw (drop-cons s i x k) (sym (append_assoc (take n s) (replicate (i - n) x) _)) in
      rw (w, set_at p (get_or s i x) (drop (suc i) s) x i l) (append_assoc (take n s) (replicate (i - n) x) (x ∷ drop (suc i) s)
      ∙ ap (λ (t : List A). take n s ++ t) (sym (append_assoc (replicate (i - n) x) (x ∷ []) (drop (suc i) s)) ∙ rw (one, add-one)))
