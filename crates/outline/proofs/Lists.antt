-- The lists in the work slice: what each store makes of its words. Assumes nothing.
use mathlib.Core.Path.{◌≡◌, refl, sym, ap, ◌∙◌}
use mathlib.Core.Bool.{Bool, true, false}
use mathlib.Core.List.{List, ◌∷◌, []}
use Rattle.std.specs.Prelude.{Option, Some, None}
use Prim.Native.Nat.{ℕ, suc, ◌+◌, ◌-◌, ◌*◌, ◌≤◌, ◌<◌}
use native.Mathlib.Omega.{arith}
use borrow.Author.Tests.{eqb-true, eqb-false, eq-eqb}
use lib.Dec.{eqb}
use lib.ListN.{length, get_or, set, length-set}
use lib.Seq.{get_or-set_same, get_or-set_other}
use Rattle.definition.specs.Base.{keep, first, count}
use Rattle.definition.specs.Outline.{parent_in, parent_at}
use Rattle.laws.specs.Keep.{keep_yes, keep_no}
use Rattle.laws.specs.Outlines.{parent_in_lem}
use Rattle.outline.specs.Words.{parents_in}
use Rattle.outline.proofs.ParentLaws.{length_parents, parents_at}
use Rattle.outline.specs.Steps.{word_of, home_of, slot_of, same_parent, siblings, later, Links, pushed, link_of, Empty}
use Rattle.outline.proofs.Ahead.{same_parent_lem}

-- ---- one row put into its list

pub push_by : (w₀ : List ℕ) {w₁ w₂ w₃ : List ℕ} {x : ℕ} (i p s : ℕ) → w₁ ≡ set w₀ (4 * i + 0) p → x ≡ get_or w₁ (4 * p + s) 0 → w₂ ≡ set w₁ (4 * i + 2) x
    → w₃ ≡ set w₂ (4 * p + s) i → w₃ ≡ pushed w₀ i p s
unfolding pushed
push_by w₀ i p s e f g h = cc

pub link_by_lem : (n i : ℕ) (w : List ℕ) {p : ℕ} {w' : List ℕ} (o : Option ℕ) → p ≡ get_or w (4 * i + 0) 0 → parent_in n i (Some p) ≡ o
    → w' ≡ pushed w i (home_of o) (slot_of o) → w' ≡ link_of n i w
unfolding link_of
link_by_lem n i w o e h k =
    k
    ∙ ap (λ (u : Option ℕ). pushed w i (home_of u) (slot_of u)) (sym h)
    ∙ ap (λ (x : ℕ). pushed w i (home_of (parent_in n i (Some x))) (slot_of (parent_in n i (Some x)))) e

-- the words after a row is put in front of a list that begins at an odd word
module _ (w : List ℕ) (i p s k : ℕ) (odd : 4 * p + s ≡ 2 * k + 1) where
  abbrev parented : List ℕ
  parented = set w (4 * i + 0) p

  abbrev nexted : List ℕ
  nexted = set parented (4 * i + 2) (get_or parented (4 * p + s) 0)

  -- what another word holds
  other : (j : ℕ) → (j ≡ 4 * i + 0 → ⊥) → (j ≡ 4 * i + 2 → ⊥) → (j ≡ 4 * p + s → ⊥) → get_or (pushed w i p s) j 0 ≡ get_or w j 0
  unfolding pushed
  other j a b c =
      get_or-set_other nexted (4 * p + s) j i 0 c
      ∙ get_or-set_other parented (4 * i + 2) j (get_or parented (4 * p + s) 0) 0 b
      ∙ get_or-set_other w (4 * i + 0) j p 0 a

  its_parent : 4 * i + 0 < length w → get_or (pushed w i p s) (4 * i + 0) 0 ≡ p
  unfolding pushed
  its_parent h =
      get_or-set_other nexted (4 * p + s) (4 * i + 0) i 0 (λ e. omega arith)
      ∙ get_or-set_other parented (4 * i + 2) (4 * i + 0) (get_or parented (4 * p + s) 0) 0 (λ e. omega arith)
      ∙ get_or-set_same w (4 * i + 0) p 0 h

  its_next : 4 * i + 2 < length w → get_or (pushed w i p s) (4 * i + 2) 0 ≡ get_or w (4 * p + s) 0
  unfolding pushed
  its_next h =
      let l : length parented ≡ length w = length-set w (4 * i + 0) p in
      get_or-set_other nexted (4 * p + s) (4 * i + 2) i 0 (λ e. omega arith)
      ∙ get_or-set_same parented (4 * i + 2) (get_or parented (4 * p + s) 0) 0 (omega arith)
      ∙ get_or-set_other w (4 * i + 0) (4 * p + s) p 0 (λ e. omega arith)

  its_list : 4 * p + s < length w → get_or (pushed w i p s) (4 * p + s) 0 ≡ i
  unfolding pushed
  its_list h =
      let l : length parented ≡ length w = length-set w (4 * i + 0) p in
      let m : length nexted ≡ length parented = length-set parented (4 * i + 2) (get_or parented (4 * p + s) 0) in
      get_or-set_same nexted (4 * p + s) i 0 (omega arith)

pub length_pushed : (w : List ℕ) (i p s : ℕ) → length (pushed w i p s) ≡ length w
unfolding pushed
length_pushed w i p s = simp length-set

pub length_link : (n i : ℕ) (w : List ℕ) → length (link_of n i w) ≡ length w
unfolding link_of
length_link n i w = let o = parent_in n i (Some (get_or w (4 * i + 0) 0)) in length_pushed w i (home_of o) (slot_of o)

-- ---- the rows of one parent, from a row on

module _ (ps : List (Option ℕ)) (o : Option ℕ) (i : ℕ) (h : i < length ps) where
  siblings_open : siblings ps o i ≡ keep (λ c. same_parent o (parent_at ps c)) (i ∷ count (suc i) (length ps - suc i))
  unfolding siblings count
  siblings_open =
      let e : length ps - i ≡ suc (length ps - suc i) = omega arith in
      ap (λ (m : ℕ). keep (λ c. same_parent o (parent_at ps c)) (count i m)) e

  siblings_more : same_parent o (parent_at ps i) ≡ true → siblings ps o i ≡ i ∷ siblings ps o (suc i)
  unfolding siblings
  siblings_more t = siblings_open ∙ keep_yes (λ c. same_parent o (parent_at ps c)) i (count (suc i) (length ps - suc i)) t

  siblings_skip : same_parent o (parent_at ps i) ≡ false → siblings ps o i ≡ siblings ps o (suc i)
  unfolding siblings
  siblings_skip t = siblings_open ∙ keep_no (λ c. same_parent o (parent_at ps c)) i (count (suc i) (length ps - suc i)) t

-- two lists begin at one word only where they are one
slot_same : (o u : Option ℕ) → 4 * home_of o + slot_of o ≡ 4 * home_of u + slot_of u → same_parent o u ≡ true
slot_same None None h = refl
slot_same None (Some q) h = absurd (omega arith)
slot_same (Some p) None h = absurd (omega arith)
slot_same (Some p) (Some q) h = eq-eqb q p (omega arith)

slot_odd : (o : Option ℕ) → (k : ℕ) × (4 * home_of o + slot_of o ≡ 2 * k + 1)
slot_odd None = (1, refl)
slot_odd (Some p) = (2 * p, omega arith)

slot_in : (o : Option ℕ) → slot_of o < 4
slot_in None = omega arith
slot_in (Some p) = omega arith

-- ---- one more row linked

module _ (ps : List (Option ℕ)) (i : ℕ) (w : List ℕ) (h : i < length ps) (room : 4 * length ps ≤ length w) (links : Links ps (suc i) w) where
  home_in : home_of (parent_at ps i) < length ps
  home_in = go (parent_at ps i) refl
    where
      go : (o : Option ℕ) → parent_at ps i ≡ o → home_of o < length ps
      go None e = omega arith
      go (Some p) e = parent_in_lem ps i p e

  abbrev linked : List ℕ
  linked = pushed w i (home_of (parent_at ps i)) (slot_of (parent_at ps i))

  abbrev half : ℕ
  half = (slot_odd (parent_at ps i)).0

  is_odd : 4 * home_of (parent_at ps i) + slot_of (parent_at ps i) ≡ 2 * half + 1
  is_odd = (slot_odd (parent_at ps i)).1

  -- a word 0 or 2 of another row
  same : (r s : ℕ) → (r ≡ i → ⊥) → (k : ℕ) → (s ≡ 2 * k) × (k < 2) → get_or linked (4 * r + s) 0 ≡ get_or w (4 * r + s) 0
  same r s d k e =
      other w i (home_of (parent_at ps i)) (slot_of (parent_at ps i)) half is_odd (4 * r + s)
      (λ q. d (omega arith))
      (λ q. d (omega arith))
      (λ q. omega (arith, is_odd))

  head_at : (o : Option ℕ) (t : Bool) → same_parent o (parent_at ps i) ≡ t → home_of o < length ps → get_or linked (4 * home_of o + slot_of o) 0 ≡ word_of (first (siblings ps o i))
  unfolding first
  head_at o true t l =
      let e : parent_at ps i ≡ o = same_parent_lem o (parent_at ps i) t in
      ap (λ (u : Option ℕ). get_or linked (4 * home_of u + slot_of u) 0) (sym e)
      ∙ its_list w i (home_of (parent_at ps i)) (slot_of (parent_at ps i)) half is_odd (omega (arith, home_in, slot_in (parent_at ps i)))
      ∙ ap (λ (l : List ℕ). word_of (first l)) (sym (siblings_more ps o i h t))
  head_at o false t l =
      other w i (home_of (parent_at ps i)) (slot_of (parent_at ps i)) half is_odd (4 * home_of o + slot_of o)
      (λ q. omega (arith, (slot_odd o).1))
      (λ q. omega (arith, (slot_odd o).1))
      (λ q. let z : ◌≡◌ {A = Bool} true false = sym (slot_same o (parent_at ps i) q) ∙ t in let y : ◌≡◌ {A = ℕ} 0 1 = cc in omega arith)
      ∙ links.head o l
      ∙ ap (λ (l : List ℕ). word_of (first l)) (sym (siblings_skip ps o i h t))

  home_at : (r : ℕ) (t : Bool) → eqb r i ≡ t → i ≤ r → r < length ps → get_or linked (4 * r + 0) 0 ≡ home_of (parent_at ps r)
  home_at r true t l m =
      let e : r ≡ i = eqb-true r i t in
      rw e (its_parent w i (home_of (parent_at ps i)) (slot_of (parent_at ps i)) half is_odd (omega arith))
  home_at r false t l m =
      let d : r ≡ i → ⊥ = eqb-false r i t in
      same r 0 d 0 (refl, omega arith) ∙ links.home r (omega arith) m

  next_at_lem : (r : ℕ) (t : Bool) → eqb r i ≡ t → i ≤ r → r < length ps → get_or linked (4 * r + 2) 0 ≡ word_of (first (later ps r))
  next_at_lem r true t l m =
      let e : r ≡ i = eqb-true r i t in
      rw e
      (its_next w i (home_of (parent_at ps i)) (slot_of (parent_at ps i)) half is_odd (omega arith)
      ∙ links.head (parent_at ps i) home_in)
  next_at_lem r false t l m =
      let d : r ≡ i → ⊥ = eqb-false r i t in
      same r 2 d 1 (refl, omega arith) ∙ links.next r (omega arith) m

  pushed_more : Links ps i linked
  pushed_more =
      record {
        named = λ r l.
            ap (λ (x : ℕ). parent_in (length ps) r (Some x)) (same r 0 (λ e. omega arith) 0 (refl, omega arith)) ∙ links.named r (omega arith);
        home = λ r l m. home_at r (eqb r i) refl l m;
        next = λ r l m. next_at_lem r (eqb r i) refl l m;
        head = λ o l. head_at o (same_parent o (parent_at ps i)) refl l;
      }

  pub link_more : Links ps i (link_of (length ps) i w)
  unfolding link_of
  link_more = rw (links.named i (omega arith)) pushed_more

-- ---- before the first row is linked

pub links_none : (n : ℕ) (w u : List ℕ) → Empty n w u → Links (parents_in n w) n u
unfolding parent_at siblings keep count first
links_none n w u e =
    record {
      named = λ r h.
          let z : 4 * r + 0 ≡ 4 * r = omega arith in
          ap (parent_in (length (parents_in n w)) r) (ap Some (e.parents r ∙ ap (λ (j : ℕ). get_or w j 0) z) ∙ sym (parents_at n r w h));
      home = λ r l h. absurd (omega (arith, length_parents n w));
      next = λ r l h. absurd (omega (arith, length_parents n w));
      head = λ o h. begins o h ∙ ap (λ (l : List ℕ). word_of (first l)) (sym (none_left o));
    }
  where
    none_left : (o : Option ℕ) → siblings (parents_in n w) o n ≡ []
    none_left o =
        let z : length (parents_in n w) - n ≡ 0 = omega (arith, length_parents n w) in
        ap (λ (m : ℕ). keep (λ c. same_parent o (parent_at (parents_in n w) c)) (count n m)) z

    begins : (o : Option ℕ) → home_of o < length (parents_in n w) → get_or u (4 * home_of o + slot_of o) 0 ≡ word_of (first [])
    begins None h = e.top (omega (arith, length_parents n w))
    begins (Some p) h = e.child p (omega (arith, length_parents n w))

-- ---- one turn of each loop

pub link_on : (ps : List (Option ℕ)) (n i : ℕ) (w : List ℕ) {w' : List ℕ} → n ≡ length ps → 0 < i → i ≤ n → 4 * n ≤ length w → Links ps i w → w' ≡ link_of n (i - 1) w
    → Links ps (i - 1) w'
link_on ps n i w e h k room links q =
    let s : i ≡ suc (i - 1) = omega arith in
    let l : Links ps (suc (i - 1)) w = rw s at links in
    rw (q, e) (link_more ps (i - 1) w (omega arith) (omega arith) l)
