-- Bits laid over others: what a write in the middle leaves. Assumes nothing.
use Rattle.std.specs.Prelude.{◌≡◌, List, [], ◌∷◌, ◌++◌, ℕ, zero, suc, ◌+◌, ◌≤◌, length, take, drop}
use Rattle.std.proofs.Common.{sym, ap, ◌∙◌, append_assoc, zero-add, suc-add, arith, length-append, take_at, drop_at, length-take-le, take-take}
use Rattle.std.proofs.Math.Seq.{take-nil}
use Rattle.std.proofs.lemmas.List.{take-append-le}

-- f laid over l from place n on
unfoldable pub over : ℕ → List ℕ → List ℕ → List ℕ
over n f l = take n l ++ (f ++ drop (n + length f) l)

-- f takes the place of b
pub over_mid : (n : ℕ) (a b c f : List ℕ) → length a ≡ n → length b ≡ length f → over n f (a ++ (b ++ c)) ≡ a ++ (f ++ c)
unfolding over
over_mid n a b c f ea eb =
    let s : drop (n + length f) (a ++ (b ++ c)) ≡ c =
    ap (λ (l : List ℕ). drop (n + length f) l) (sym (append_assoc a b c)) ∙ drop_at (a ++ b) c (n + length f) (length-append a b ∙ omega arith) in
    rw (s, take_at a (b ++ c) n ea)

-- what stands before the place is as it was
pub over_before : (m n : ℕ) (f l : List ℕ) → m ≤ n → n ≤ length l → take m (over n f l) ≡ take m l
unfolding over
over_before m n f l h k = rw (take-append-le m (take n l) (f ++ drop (n + length f) l) (omega (arith, length-take-le n l k)), take-take m n l h)

-- what stands before the end of what was laid
pub over_upto : (n : ℕ) (f l : List ℕ) → n ≤ length l → take (n + length f) (over n f l) ≡ take n l ++ f
unfolding over
over_upto n f l h = rw (← append_assoc (take n l) f) (take_at (take n l ++ f) _ (n + length f) (length-append (take n l) f ∙ ap (λ (k : ℕ). k + length f) (length-take-le n l h)))

pub take_drop : (p k : ℕ) (x : List ℕ) → take k (drop p x) ≡ drop p (take (p + k) x)
take_drop zero k x = rw zero-add
take_drop (suc p) k [] = rw suc-add (take-nil k)
take_drop (suc p) k (y ∷ x) = rw suc-add (take_drop p k x)

-- a part of what stands before a place
pub part_before : (p k n : ℕ) (x : List ℕ) → p + k ≤ n → take k (drop p x) ≡ take k (drop p (take n x))
part_before p k n x h = take_drop p k x ∙ sym (take_drop p k (take n x) ∙ ap (drop p) (take-take (p + k) n x h))
