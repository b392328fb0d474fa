-- Laws of the parents that stand in the words, for whoever writes them there: the outline goes by the parents that count, and a word that
-- names no row stands for none. Assumes nothing.
use mathlib.Core.Path.{◌≡◌, refl, sym, ap, ◌∙◌, fun_ext}
use mathlib.Core.Bool.{Bool, true, false, ◌&&◌, not}
use mathlib.Core.List.{List, ◌∷◌, map, flat_map}
use Rattle.std.specs.Prelude.{Option, Some, None}
use Prim.Native.Nat.{ℕ, zero, suc, ◌+◌, ◌*◌, ◌≤◌, ◌<◌}
use native.Mathlib.Omega.{arith}
use borrow.Author.Tests.{ltb-true, ltb-false, lt-ltb, le-ltb, eq-eqb, ne_eqb}
use lib.Dec.{ltb, eqb}
use lib.ListN.{length, get_or}
use Rattle.definition.specs.Base.{keep, count}
use Rattle.definition.specs.Outline.{parent_in, is_top, is_under, parent_at, top_rows, child_rows, under, outline_of}
use Rattle.laws.specs.Outlines.{parent_out}
use Rattle.outline.specs.Words.{no_row, parents_in}
use Rattle.outline.specs.Steps.{word_of}

-- ---- the parent that counts

parent_by : (n i p : ℕ) (t : Bool) → (ltb p n && not (eqb p i)) ≡ t → parent_in n i (Some p) ≡ elim t [ true ↦ Some p | false ↦ None ]
parent_by n i p t e = ap {B = Option ℕ} (λ (b : Bool). elim b [ true ↦ Some p | false ↦ None ]) e

pub parent_far : (n i p : ℕ) → n ≤ p → parent_in n i (Some p) ≡ None
parent_far n i p h = parent_by n i p false (rw (le-ltb p n h))

pub parent_self : (n i p : ℕ) → p < n → p ≡ i → parent_in n i (Some p) ≡ None
parent_self n i p h e = parent_by n i p false (rw (lt-ltb p n h, eq-eqb p i e))

pub parent_is : (n i p : ℕ) → p < n → (p ≡ i → ⊥) → parent_in n i (Some p) ≡ Some p
parent_is n i p h e = parent_by n i p true (rw (lt-ltb p n h, ne_eqb p i e))

-- ---- the parents in the words

length_count : (f : ℕ → Option ℕ) (a n : ℕ) → length (map f (count a n)) ≡ n
unfolding count
length_count f a zero = refl
length_count f a (suc n) = ap suc (length_count f (suc a) n)

get_d_count : (f : ℕ → Option ℕ) (r a n : ℕ) → r < n → get_or (map f (count a n)) r None ≡ f (a + r)
unfolding count
get_d_count f r a zero h = absurd (omega arith)
get_d_count f zero a (suc n) h = let e : a ≡ a + 0 = omega arith in ap f e
get_d_count f (suc r) a (suc n) h = let e : suc a + r ≡ a + suc r = omega arith in get_d_count f r (suc a) n (omega arith) ∙ ap f e

pub length_parents : (n : ℕ) (w : List ℕ) → length (parents_in n w) ≡ n
unfolding parents_in
length_parents n w = length_count (λ row. Some (get_or w (4 * row) 0)) 0 n

pub parents_at : (n r : ℕ) (w : List ℕ) → r < n → get_or (parents_in n w) r None ≡ Some (get_or w (4 * r) 0)
unfolding parents_in
parents_at n r w h =
    let e : 4 * (0 + r) ≡ 4 * r = omega arith in
    get_d_count (λ row. Some (get_or w (4 * row) 0)) r 0 n h ∙ ap (λ (j : ℕ). Some (get_or w j 0)) e

-- ---- the outline goes by the parents that count

module _ (ps qs : List (Option ℕ)) (long : length ps ≡ length qs) (same : (r : ℕ) → parent_at ps r ≡ parent_at qs r) where
  parents_same : parent_at ps ≡ parent_at qs
  parents_same = fun_ext same

  top_same : top_rows ps ≡ top_rows qs
  unfolding top_rows
  top_same = λ i. keep (λ row. is_top (parents_same i row)) (count 0 (long i))

  child_same : (row : ℕ) → child_rows ps row ≡ child_rows qs row
  unfolding child_rows
  child_same row = λ i. keep (λ c. is_under row (parents_same i c)) (count 0 (long i))

  under_same : (k level row : ℕ) → under k ps level row ≡ under k qs level row
  unfolding under
  under_same zero level row = refl
  under_same (suc k) level row = λ i. (row, level) ∷ flat_map (λ r. under_same k (suc level) r i) (child_same row i)

  pub outline_same : outline_of ps ≡ outline_of qs
  unfolding outline_of
  outline_same =
      ap (λ (k : ℕ). flat_map (under k ps 1) (top_rows ps)) long ∙ λ i. flat_map (λ r. under_same (length qs) 1 r i) (top_same i)

-- the words hold the parents of a list
pub outline_filled : (ps : List (Option ℕ)) (work : List ℕ) → length ps ≤ no_row
    → ((r : ℕ) → r < length ps → get_or work (4 * r) 0 ≡ word_of (get_or ps r None)) → outline_of (parents_in (length ps) work) ≡ outline_of ps
unfolding parent_at
outline_filled ps work few filled = outline_same (parents_in (length ps) work) ps long (λ r. go r (ltb r (length ps)) refl)
  where
    long : length (parents_in (length ps) work) ≡ length ps
    long = length_parents (length ps) work

    word : (r : ℕ) (o : Option ℕ) → parent_in (length ps) r (Some (word_of o)) ≡ parent_in (length ps) r o
    word r None = parent_far (length ps) r no_row few
    word r (Some p) = refl

    go : (r : ℕ) (t : Bool) → ltb r (length ps) ≡ t → parent_at (parents_in (length ps) work) r ≡ parent_at ps r
    go r true e =
        let h : r < length ps = ltb-true r (length ps) e in
        ap (λ (n : ℕ). parent_in n r (get_or (parents_in (length ps) work) r None)) long
        ∙ ap (parent_in (length ps) r) (parents_at (length ps) r work h ∙ ap Some (filled r h))
        ∙ word r (get_or ps r None)
    go r false e =
        let h : length ps ≤ r = ltb-false r (length ps) e in
        parent_out (parents_in (length ps) work) r (omega (arith, long)) ∙ sym (parent_out ps r h)
