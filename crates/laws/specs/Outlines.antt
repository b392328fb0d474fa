-- The rows of an outline, for any parents: no row stands twice and each is one of the activities', so there are at most as many as activities.
-- Assumes nothing.
use Rattle.std.specs.Prelude.{if◌then◌else◌, ◌≡◌, Bool, ◌&&◌, not, length, get_or}
use Rattle.std.proofs.Math.Path.{refl, sym, ap}
use Rattle.std.proofs.Common.{◌∙◌, ltb-true, ltb-false, eqb-true, eq-eqb, ne_eqb}
use Rattle.std.proofs.Math.Bool.{true, false}
use mathlib.Core.List.{List, [], ◌∷◌, ◌++◌, flat_map, append_assoc}
use Rattle.std.specs.Prelude.{Option, Some, None}
use Prim.Native.Nat.{ℕ, zero, suc, ◌+◌, ◌≤◌, ◌<◌}
use native.Mathlib.Omega.{arith}
use Rattle.std.proofs.lemmas.Bool.{eqb-false}
use Rattle.std.proofs.Math.Dec.{ltb, eqb}
use Rattle.std.proofs.Math.ListN.{get_or-eq_default}
use Rattle.definition.specs.Base.{keep, count}
use Rattle.definition.specs.Format.{bit}
use Rattle.definition.specs.Outline.{parent_in, is_top, is_under, parent_at, top_rows, child_rows, under, outline_of}
use Rattle.laws.specs.Options.{never}

-- ---- how often a row stands in a list

unfoldable pub times : ℕ → List ℕ → ℕ
times c [] = 0
times c (x ∷ l) = bit (eqb c x) + times c l

-- and in an outline
unfoldable pub stands : ℕ → List (ℕ × ℕ) → ℕ
stands c [] = 0
stands c (x ∷ l) = bit (eqb c x.0) + stands c l

times_append : (c : ℕ) (a b : List ℕ) → times c (a ++ b) ≡ times c a + times c b
unfolding times
times_append c [] b = omega arith
times_append c (x ∷ a) b = omega (arith, times_append c a b)

pub stands_append : (c : ℕ) (a b : List (ℕ × ℕ)) → stands c (a ++ b) ≡ stands c a + stands c b
unfolding stands
stands_append c [] b = omega arith
stands_append c (x ∷ a) b = omega (arith, stands_append c a b)

pub flat_map_append : {A B : Type 0} (f : A → List B) (a b : List A) → flat_map f (a ++ b) ≡ flat_map f a ++ flat_map f b
unfolding flat_map
flat_map_append f [] b = refl
flat_map_append {B = B} f (x ∷ a) b = ap (λ (l : List B). f x ++ l) (flat_map_append f a b) ∙ sym (append_assoc (f x) (flat_map f a) (flat_map f b))

-- ---- what a test keeps of the rows

differ : (p : ℕ → Bool) (c x : ℕ) → (p c ≡ p x → ⊥) → eqb c x ≡ false
differ p c x f = ne_eqb c x (λ q. f (ap p q))

keep_all : (p : ℕ → Bool) (c : ℕ) → p c ≡ true → (l : List ℕ) → times c (keep p l) ≡ times c l
unfolding keep times
keep_all p c h [] = refl
keep_all p c h (x ∷ l) = go (p x) refl (keep_all p c h l)
  where
    go : (t : Bool) → p x ≡ t → times c (keep p l) ≡ times c l → times c (if t then x ∷ keep p l else keep p l) ≡ bit (eqb c x) + times c l
    go true e i = ap (λ (n : ℕ). bit (eqb c x) + n) i
    go false e i = rw (differ p c x (λ q. let z : ◌≡◌ {A = ℕ} 0 1 = cc in omega arith)) (omega arith)

keep_none : (p : ℕ → Bool) (c : ℕ) → p c ≡ false → (l : List ℕ) → times c (keep p l) ≡ 0
unfolding keep times
keep_none p c h [] = refl
keep_none p c h (x ∷ l) = go (p x) refl (keep_none p c h l)
  where
    go : (t : Bool) → p x ≡ t → times c (keep p l) ≡ 0 → times c (if t then x ∷ keep p l else keep p l) ≡ 0
    go true e i = rw (differ p c x (λ q. let z : ◌≡◌ {A = ℕ} 0 1 = cc in omega arith)) (omega arith)
    go false e i = i

count_below : (c a m : ℕ) → c < a → times c (count a m) ≡ 0
unfolding times count
count_below c a zero h = refl
count_below c a (suc m) h = rw (ne_eqb c a (λ q. omega arith)) (omega (arith, count_below c (suc a) m (omega arith)))

count_past : (c a m : ℕ) → a + m ≤ c → times c (count a m) ≡ 0
unfolding times count
count_past c a zero h = refl
count_past c a (suc m) h = rw (ne_eqb c a (λ q. omega arith)) (omega (arith, count_past c (suc a) m (omega arith)))

count_in : (c a m : ℕ) → a ≤ c → c < a + m → times c (count a m) ≡ 1
unfolding times count
count_in c a zero h k = absurd (omega arith)
count_in c a (suc m) h k = go (eqb c a) refl (count_in c (suc a) m)
  where
    go : (t : Bool) → eqb c a ≡ t → (suc a ≤ c → c < suc a + m → times c (count (suc a) m) ≡ 1) → bit t + times c (count (suc a) m) ≡ 1
    go true e f = omega (arith, count_below c (suc a) m (omega (arith, eqb-true c a e)))
    go false e f = let d : c ≡ a → ⊥ = eqb-false c a e in omega (arith, f (omega arith) (omega arith))

-- ---- parents

pub parent_out : (ps : List (Option ℕ)) (c : ℕ) → length ps ≤ c → parent_at ps c ≡ None
unfolding parent_at
parent_out ps c h = ap (parent_in (length ps) c) (get_or-eq_default ps None h)

pub row_in : (ps : List (Option ℕ)) (c p : ℕ) → parent_at ps c ≡ Some p → c < length ps
row_in ps c p h = go (ltb c (length ps)) refl
  where
    go : (t : Bool) → ltb c (length ps) ≡ t → c < length ps
    go true e = ltb-true c (length ps) e
    go false e = never (sym (parent_out ps c (ltb-false c (length ps) e)) ∙ h)

-- a parent is in range
pub parent_in_lem : (ps : List (Option ℕ)) (c p : ℕ) → parent_at ps c ≡ Some p → p < length ps
unfolding parent_at
parent_in_lem ps c p h = given (get_or ps c None) h
  where
    test : (q : ℕ) (t u : Bool) → ltb q (length ps) ≡ t → elim (t && u) [ true ↦ Some q | false ↦ None ] ≡ Some p → p < length ps
    test q true true e k = let z : q ≡ p = cc in omega (arith, ltb-true q (length ps) e)
    test q true false e k = never k
    test q false true e k = never k
    test q false false e k = never k

    given : (o : Option ℕ) → parent_in (length ps) c o ≡ Some p → p < length ps
    given None k = never k
    given (Some q) k = test q (ltb q (length ps)) (not (eqb q c)) refl k

module _ (ps : List (Option ℕ)) where
  -- the children of some rows
  abbrev kids : List ℕ → List ℕ
  kids = flat_map (child_rows ps)

  pub top_times : (c : ℕ) → c < length ps → parent_at ps c ≡ None → times c (top_rows ps) ≡ 1
  unfolding top_rows
  top_times c l h = keep_all (λ row. is_top (parent_at ps row)) c (ap is_top h) (count 0 (length ps)) ∙ count_in c 0 (length ps) (omega arith) (omega arith)

  pub top_none : (c p : ℕ) → parent_at ps c ≡ Some p → times c (top_rows ps) ≡ 0
  unfolding top_rows
  top_none c p h = keep_none (λ row. is_top (parent_at ps row)) c (ap is_top h) (count 0 (length ps))

  top_out : (c : ℕ) → length ps ≤ c → times c (top_rows ps) ≡ 0
  unfolding top_rows
  top_out c l = keep_all (λ row. is_top (parent_at ps row)) c (ap is_top (parent_out ps c l)) (count 0 (length ps)) ∙ count_past c 0 (length ps) (omega arith)

  pub child_times : (c p x : ℕ) → parent_at ps c ≡ Some p → times c (child_rows ps x) ≡ bit (eqb p x)
  unfolding child_rows
  child_times c p x h = go (eqb p x) refl
    where
      go : (t : Bool) → eqb p x ≡ t → times c (keep (λ y. is_under x (parent_at ps y)) (count 0 (length ps))) ≡ bit t
      go true e =
          keep_all (λ y. is_under x (parent_at ps y)) c (ap (is_under x) h ∙ e) (count 0 (length ps))
          ∙ count_in c 0 (length ps) (omega arith) (omega (arith, row_in ps c p h))
      go false e = keep_none (λ y. is_under x (parent_at ps y)) c (ap (is_under x) h ∙ e) (count 0 (length ps))

  child_none : (c x : ℕ) → parent_at ps c ≡ None → times c (child_rows ps x) ≡ 0
  unfolding child_rows
  child_none c x h = keep_none (λ y. is_under x (parent_at ps y)) c (ap (is_under x) h) (count 0 (length ps))

  -- a row stands among the children of some rows as often as its parent among them
  kids_times : (c p : ℕ) → parent_at ps c ≡ Some p → (l : List ℕ) → times c (kids l) ≡ times p l
  unfolding flat_map times
  kids_times c p h [] = refl
  kids_times c p h (x ∷ l) = omega (arith, times_append c (child_rows ps x) (kids l), child_times c p x h, kids_times c p h l)

  kids_none : (c : ℕ) → parent_at ps c ≡ None → (l : List ℕ) → times c (kids l) ≡ 0
  unfolding flat_map times
  kids_none c h [] = refl
  kids_none c h (x ∷ l) = omega (arith, times_append c (child_rows ps x) (kids l), child_none c x h, kids_none c h l)

  -- ---- rows with all below them

  -- some rows with all below them, so many levels deep
  abbrev pub all : ℕ → ℕ → List ℕ → List (ℕ × ℕ)
  all k level = flat_map (under k ps level)

  pub no_levels : (level : ℕ) (l : List ℕ) → all zero level l ≡ []
  unfolding flat_map under
  no_levels level [] = refl
  no_levels level (x ∷ l) = no_levels level l

  -- first the rows themselves, then their children with all below those
  one_level : (c k level : ℕ) (l : List ℕ) → stands c (all (suc k) level l) ≡ times c l + stands c (all k (suc level) (kids l))
  unfolding flat_map under stands times
  one_level c k level [] = refl
  one_level c k level (x ∷ l) =
      omega (
        arith,
        stands_append c (all k (suc level) (child_rows ps x)) (all (suc k) level l),
        ap (stands c) (flat_map_append (under k ps (suc level)) (child_rows ps x) (kids l)),
        stands_append c (all k (suc level) (child_rows ps x)) (all k (suc level) (kids l)),
        one_level c k level l,
      )

  below_parent : (c p : ℕ) → parent_at ps c ≡ Some p → (k level : ℕ) (l : List ℕ) → stands c (all k level (kids l)) ≡ stands p (all k level l)
  unfolding stands
  below_parent c p h zero level l = ap (stands c) (no_levels level (kids l)) ∙ sym (ap (stands p) (no_levels level l))
  below_parent c p h (suc k) level l =
      omega (arith, one_level c k level (kids l), one_level p k level l, kids_times c p h l, below_parent c p h k (suc level) (kids l))

  below_none : (c : ℕ) → parent_at ps c ≡ None → (k level : ℕ) (l : List ℕ) → stands c (all k level (kids l)) ≡ 0
  unfolding stands
  below_none c h zero level l = ap (stands c) (no_levels level (kids l))
  below_none c h (suc k) level l = omega (arith, one_level c k level (kids l), kids_none c h l, below_none c h k (suc level) (kids l))

  -- below the top a row stands as often as its parent one level higher, and a row at the top once
  pub as_parent : (c p k level : ℕ) → parent_at ps c ≡ Some p → stands c (all (suc k) level (top_rows ps)) ≡ stands p (all k (suc level) (top_rows ps))
  as_parent c p k level h = omega (arith, one_level c k level (top_rows ps), top_none c p h, below_parent c p h k (suc level) (top_rows ps))

  pub at_top : (c k level : ℕ) → c < length ps → parent_at ps c ≡ None → stands c (all (suc k) level (top_rows ps)) ≡ 1
  at_top c k level l h = omega (arith, one_level c k level (top_rows ps), top_times c l h, below_none c h k (suc level) (top_rows ps))

  out : (c k level : ℕ) → length ps ≤ c → stands c (all k level (top_rows ps)) ≡ 0
  unfolding stands
  out c zero level l = ap (stands c) (no_levels level (top_rows ps))
  out c (suc k) level l =
      omega (arith, one_level c k level (top_rows ps), top_out c l, below_none c (parent_out ps c l) k (suc level) (top_rows ps))

  once : (k level c : ℕ) → stands c (all k level (top_rows ps)) ≤ 1
  unfolding stands
  once zero level c = omega (arith, ap (stands c) (no_levels level (top_rows ps)))
  once (suc k) level c = go (ltb c (length ps)) refl (parent_at ps c) refl (once k (suc level))
    where
      go : (t : Bool) → ltb c (length ps) ≡ t → (o : Option ℕ) → parent_at ps c ≡ o → ((p : ℕ) → stands p (all k (suc level) (top_rows ps)) ≤ 1)
          → stands c (all (suc k) level (top_rows ps)) ≤ 1
      go false e None h f = omega (arith, out c (suc k) level (ltb-false c (length ps) e))
      go true e None h f = omega (arith, at_top c k level (ltb-true c (length ps) e) h)
      go false e (Some p) h f = omega (arith, out c (suc k) level (ltb-false c (length ps) e))
      go true e (Some p) h f = omega (arith, as_parent c p k level h, f p)

-- no row stands twice
pub outline_once : (ps : List (Option ℕ)) (c : ℕ) → stands c (outline_of ps) ≤ 1
unfolding outline_of
outline_once ps c = once ps (length ps) 1 c

-- each is an activity's
pub outline_in : (ps : List (Option ℕ)) (c : ℕ) → length ps ≤ c → stands c (outline_of ps) ≡ 0
unfolding outline_of
outline_in ps c h = out ps c (length ps) 1 h

-- ---- so many rows

-- how often the rows below a number stand
pub total : ℕ → List (ℕ × ℕ) → ℕ
total zero l = 0
total (suc n) l = total n l + stands n l

total_nil : (n : ℕ) → total n [] ≡ 0
unfolding total stands
total_nil zero = refl
total_nil (suc n) = omega (arith, total_nil n)

total_past : (n : ℕ) (x : ℕ × ℕ) (l : List (ℕ × ℕ)) → n ≤ x.0 → total n (x ∷ l) ≡ total n l
unfolding total stands
total_past zero x l h = refl
total_past (suc n) x l h = rw (ne_eqb n x.0 (λ q. omega arith)) (omega (arith, total_past n x l (omega arith)))

total_more : (n : ℕ) (x : ℕ × ℕ) (l : List (ℕ × ℕ)) → x.0 < n → total n (x ∷ l) ≡ suc (total n l)
unfolding total stands
total_more zero x l h = absurd (omega arith)
total_more (suc n) x l h = go (eqb n x.0) refl (total_more n x l)
  where
    go : (t : Bool) → eqb n x.0 ≡ t → (x.0 < n → total n (x ∷ l) ≡ suc (total n l)) → total n (x ∷ l) + (bit t + stands n l) ≡ suc (total n l + stands n l)
    go true e f = omega (arith, total_past n x l (omega (arith, eqb-true n x.0 e)))
    go false e f = let d : n ≡ x.0 → ⊥ = eqb-false n x.0 e in omega (arith, f (omega arith))

pub length_total : (n : ℕ) (l : List (ℕ × ℕ)) → ((c : ℕ) → n ≤ c → stands c l ≡ 0) → length l ≡ total n l
unfolding stands
length_total n [] f = sym (total_nil n)
length_total n (x ∷ l) f = go (ltb x.0 n) refl (length_total n l (λ c h. omega (arith, f c h)))
  where
    go : (t : Bool) → ltb x.0 n ≡ t → length l ≡ total n l → suc (length l) ≡ total n (x ∷ l)
    go true e i = omega (arith, total_more n x l (ltb-true x.0 n e))
    go false e i = absurd (omega (arith, f x.0 (ltb-false x.0 n e), ap bit (eq-eqb x.0 x.0 refl)))

pub total_most : (n : ℕ) (l : List (ℕ × ℕ)) → ((c : ℕ) → stands c l ≤ 1) → total n l ≤ n
unfolding total
total_most zero l f = omega arith
total_most (suc n) l f = omega (arith, total_most n l f, f n)
