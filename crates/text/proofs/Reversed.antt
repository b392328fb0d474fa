-- A list from its end. Assumes nothing.
use mathlib.Core.Path.{◌≡◌, sym, ap, ◌∙◌}
use mathlib.Core.List.{List, [], ◌∷◌, reverse, reverse_aux, reverse-append}
use Prim.Native.Nat.{ℕ, zero, suc, ◌+◌}
use native.Mathlib.Omega.{arith}
use lib.ListN.{length, take, drop, get_or, take-append-drop, length-drop, length-reverse}
use lib.Seq.{drop_at}

rev_right : (l r : List ℕ) (i k : ℕ) → k ≡ length l + i → get_or (reverse_aux l r) k 0 ≡ get_or r i 0
rev_right [] r i k e = ap (λ (n : ℕ). get_or r n 0) (omega arith)
rev_right (x ∷ l) r i k e = rev_right l (x ∷ r) (suc i) k (omega arith)

rev_left : (l r : List ℕ) (i j : ℕ) → i + suc j ≡ length l → get_or (reverse_aux l r) i 0 ≡ get_or l j 0
rev_left [] r i j e = absurd (omega arith)
rev_left (x ∷ l) r i zero e = rev_right l (x ∷ r) 0 i (omega arith)
rev_left (x ∷ l) r i (suc j) e = rev_left l (x ∷ r) i j (omega arith)

-- the byte k places before the last
pub get_d_reverse : (l : List ℕ) (k j : ℕ) → k + suc j ≡ length l → get_or (reverse l) k 0 ≡ get_or l j 0
get_d_reverse l k j e = rev_left l [] k j e

pub drop_reverse : (l : List ℕ) (k m : ℕ) → k + m ≡ length l → drop k (reverse l) ≡ reverse (take m l)
drop_reverse l k m e =
    ap (λ (z : List ℕ). drop k (reverse z)) (sym (take-append-drop m l))
    ∙ ap (drop k) (reverse-append (take m l) (drop m l))
    ∙ drop_at (reverse (drop m l)) (reverse (take m l)) k (length-reverse (drop m l) ∙ simp length-drop (omega arith))
