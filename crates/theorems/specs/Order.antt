-- The outline of a model that was read gives the activities in their order, each one level below its parent. Assumes nothing.
use Rattle.std.specs.Prelude.{if◌then◌else◌, ◌≡◌, refl, Bool, true, false, length, get_or}
use Rattle.std.proofs.Math.Path.{sym, ap}
use Rattle.std.proofs.Common.{◌∙◌, true≢false, eqb-true, ne_eqb}
use mathlib.Core.List.{List, [], ◌∷◌, ◌++◌, map, flat_map, append_assoc}
use Rattle.std.specs.Prelude.{Option, Some, None}
use Rattle.laws.specs.Options.{Some-injective}
use Prim.Native.Nat.{ℕ, zero, suc, ◌+◌, ◌≤◌, ◌<◌}
use native.Mathlib.Omega.{arith}
use Rattle.std.proofs.Math.Decide.{dec_lt}
use Rattle.std.specs.Prelude.{slice_get}
use Rattle.std.proofs.lemmas.List.{length-map}
use Rattle.definition.specs.Base.{keep, count}
use Rattle.definition.specs.Tree.{Element}
use Rattle.definition.specs.Model.{Activity}
use Rattle.definition.specs.Format.{bit}
use Rattle.definition.specs.Outline.{parent_in, is_top, is_under, parent_at, top_rows, child_rows, under, outline_of, outline}
use Rattle.definition.specs.Read.{model_of}
use Rattle.laws.specs.Outlines.{stands, row_in}
use Rattle.theorems.specs.Leads.{At, map_at, at_in}
use Rattle.theorems.specs.Outlines.{After, parents_of, all_stand, outline_top, outline_after, parent_counts}
use Rattle.theorems.specs.Parents.{Closest, ParentBy, level_at, parent_by, get_d_at}
use Rattle.theorems.specs.Made.{get_seam, as_many_lem}

-- ---- rows that rise

-- the rows of an outline rise, from a on and below b
data Between : ℕ → List (ℕ × ℕ) → ℕ → Type 0 where
  done : {a b : ℕ} → a ≤ b → Between a [] b
  next : {a b r level : ℕ} {l : List (ℕ × ℕ)} → a ≤ r → Between (suc r) l b → Between a ((r, level) ∷ l) b

between_ends : {a b : ℕ} {l : List (ℕ × ℕ)} → Between a l b → a ≤ b
between_ends (done h) = h
between_ends (next h k) = omega (arith, between_ends k)

between_from : {a b c : ℕ} {l : List (ℕ × ℕ)} → c ≤ a → Between a l b → Between c l b
between_from {b = b} {c} h (done k) = let z : c ≤ b = omega arith in done z
between_from {c = c} h (next {r = r} k l) = let z : c ≤ r = omega arith in next z l

between_append : {a b c : ℕ} {l m : List (ℕ × ℕ)} → Between a l b → Between b m c → Between a (l ++ m) c
between_append (done h) k = between_from h k
between_append (next h l) k = next h (between_append l k)

between_early : (c : ℕ) {a b : ℕ} {l : List (ℕ × ℕ)} → Between a l b → c < a → stands c l ≡ 0
unfolding stands
between_early c (done h) k = refl
between_early c (next {r = r} h l) k = rw (ne_eqb c r (λ e. omega arith)) (omega (arith, between_early c l (omega arith)))

-- if each stands once, they are all
between_all : {a b : ℕ} {l : List (ℕ × ℕ)} (m : ℕ) → Between a l b → a + m ≡ b → ((c : ℕ) → a ≤ c → c < b → stands c l ≡ 1) → map (λ (x : ℕ × ℕ). x.0) l ≡ count a m
unfolding stands count
between_all zero (done h) e f = refl
between_all {a} (suc m) (done h) e f = absurd (omega (arith, f a (omega arith) (omega arith)))
between_all zero (next h k) e f = absurd (omega (arith, between_ends k))
between_all {a} {b} (suc m) (next {r = r} {l = l} h k) e f =
    let z : r ≡ a = first (dec_lt a r) in
    let i : map (λ (x : ℕ × ℕ). x.0) l ≡ count (suc r) m = between_all m k (omega arith) later in
    cc
  where
    first : Dec (a < r) → r ≡ a
    first (yes g) = absurd (omega (arith, f a (omega arith) (omega (arith, between_ends k)), ap bit (ne_eqb a r (λ e. omega arith)), between_early a k (omega arith)))
    first (no g) = omega arith

    later : (c : ℕ) → suc r ≤ c → c < b → stands c l ≡ 1
    later c g i = omega (arith, f c (omega arith) i, ap bit (ne_eqb c r (λ e. omega arith)))

-- some rows rise, from a on, and each is so
data Rising (P : ℕ → Type 0) : ℕ → List ℕ → Type 0 where
  last : {a : ℕ} → Rising P a []
  more : {a r : ℕ} {l : List ℕ} → a ≤ r → P r → Rising P (suc r) l → Rising P a (r ∷ l)

rising_from : {P : ℕ → Type 0} {a : ℕ} {l : List ℕ} (b : ℕ) → ((r : ℕ) → a ≤ r → P r → b ≤ r) → Rising P a l → Rising P b l
rising_from b f last = last
rising_from b f (more {r = r} h p rs) = more (f r h p) p rs

rising_kept : {P : ℕ → Type 0} (p : ℕ → Bool) (a m b : ℕ) → a + m ≡ b → ((r : ℕ) → r < b → p r ≡ true → P r) → Rising P a (keep p (count a m))
unfolding keep count
rising_kept p a zero b e f = last
rising_kept {P} p a (suc m) b e f = by (p a) refl (rising_kept p (suc a) m b (omega arith) f)
  where
    by : (t : Bool) → p a ≡ t → Rising P (suc a) (keep p (count (suc a) m)) → Rising P a (if t then a ∷ keep p (count (suc a) m) else keep p (count (suc a) m))
    by true k rs = let z : a ≤ a = omega arith in more z (f a (omega arith) k) rs
    by false k rs = rising_from a (λ r h p. omega arith) rs

-- ---- nested parents

abbrev NotAbove : ℕ → Option ℕ → Type 0
NotAbove p None = ⊥
NotAbove p (Some s) = p ≤ s

-- each parent is above its child, and each row between the two has a parent, which is not above that one
record Nested (ps : List (Option ℕ)) : Type 0 where
  up : (c p : ℕ) → parent_at ps c ≡ Some p → p < c
  inside : (c p q : ℕ) → parent_at ps c ≡ Some p → p < q → q < c → NotAbove p (parent_at ps q)

is_top_lem : (o : Option ℕ) → is_top o ≡ true → o ≡ None
is_top_lem None h = refl
is_top_lem (Some p) h = absurd (true≢false (sym h))

is_under_lem : (r : ℕ) (o : Option ℕ) → is_under r o ≡ true → o ≡ Some r
is_under_lem r None h = absurd (true≢false (sym h))
is_under_lem r (Some p) h = ap (λ (q : ℕ). Some q) (eqb-true p r h)

module _ (ps : List (Option ℕ)) (n : Nested ps) where
  -- no row from b on has a parent from c on that is below b
  abbrev Ends : ℕ → ℕ → Type 0
  Ends c b = (x y : ℕ) → parent_at ps x ≡ Some y → b ≤ x → c ≤ y → y < b → ⊥

  -- at the next row of the same parent all below a row ends
  ends_next : (c d : ℕ) → c < d → parent_at ps c ≡ parent_at ps d → Ends c d
  ends_next c d h e x y k i j l = by (dec_lt d x)
    where
      above : (o : Option ℕ) → parent_at ps d ≡ o → NotAbove y o → ⊥
      above None g m = m
      above (Some s) g m = omega (arith, n.up c s (e ∙ g))

      by : Dec (d < x) → ⊥
      by (yes g) = above (parent_at ps d) refl (n.inside x y d k l g)
      by (no g) = let z : x ≡ d = omega arith in omega (arith, n.up c y (e ∙ ap (parent_at ps) (sym z) ∙ k))

  -- rows of one parent
  abbrev Of : Option ℕ → ℕ → Type 0
  Of o r = (r < length ps) × (parent_at ps r ≡ o)

  module _
      (k level b : ℕ)
      (o : Option ℕ)
      (block : (r e : ℕ) → r < e → Ends r e → Between r (under k ps level r) e)
      (close : (r : ℕ) → Of o r → (r < b) × Ends r b) where
    siblings_after : (r : ℕ) → Of o r → {l : List ℕ} → Rising (Of o) (suc r) l → Between r (under k ps level r ++ flat_map (under k ps level) l) b
    unfolding flat_map
    siblings_after r p last =
        let z : b ≤ b = omega arith in
        let (h, e) = close r p in
        between_append (block r b h e) (done z)
    siblings_after r p (more {r = s} h q rs) = between_append (block r s h (ends_next r s h (p.1 ∙ sym q.1))) (siblings_after s q rs)

    siblings : {a : ℕ} {l : List ℕ} → a ≤ b → Rising (Of o) a l → Between a (flat_map (under k ps level) l) b
    unfolding flat_map
    siblings h last = done h
    siblings h (more {r = r} k p rs) = between_from k (siblings_after r p rs)

  -- a row with all below it
  block : (k level r b : ℕ) → r < b → Ends r b → Between r (under k ps level r) b
  unfolding under
  block zero level r b h e = let z : r ≤ b = omega arith in done z
  block (suc k) level r b h e =
      let z : r ≤ r = omega arith in
      next z (siblings k (suc level) b (Some r) (block k (suc level)) close h (rising_from (suc r) (λ s i p. n.up s r p.1) children))
    where
      before : (s : ℕ) → Of (Some r) s → Dec (s < b) → s < b
      before s p (yes g) = g
      before s p (no g) = absurd (e s r p.1 (omega arith) (omega arith) h)

      close : (s : ℕ) → Of (Some r) s → (s < b) × Ends s b
      close s p = (before s p (dec_lt s b), λ x y i j l m. e x y i j (omega (arith, n.up s r p.1)) m)

      children : Rising (Of (Some r)) 0 (child_rows ps r)
      children = unfold child_rows in
          rising_kept (λ c. is_under r (parent_at ps c)) 0 (length ps) (length ps) (omega arith) (λ s i t. (i, is_under_lem r (parent_at ps s) t))

  outline_rises : Between 0 (outline_of ps) (length ps)
  unfolding outline_of top_rows
  outline_rises =
      siblings (length ps) 1 (length ps) None (block (length ps) 1) (λ r p. (p.0, λ x y i j l m. omega (arith, row_in ps x y i))) (omega arith)
      (rising_kept (λ row. is_top (parent_at ps row)) 0 (length ps) (length ps) (omega arith) (λ s i t. (i, is_top_lem (parent_at ps s) t)))

  outline_stands : (c : ℕ) → c < length ps → stands c (outline_of ps) ≡ 1
  unfolding outline_of
  outline_stands c h = all_stand ps n.up (length ps) 1 c h h

  outline_order : map (λ (x : ℕ × ℕ). x.0) (outline_of ps) ≡ count 0 (length ps)
  outline_order = between_all (length ps) outline_rises (omega arith) (λ c i l. outline_stands c l)

-- parents by levels are nested
nested_by : (level : ℕ → ℕ) (ps : List (Option ℕ)) → ((row : ℕ) → row < length ps → ParentBy level row (parent_at ps row)) → Nested ps
nested_by level ps f = record { up = λ c p h. (closest c p h).earlier; inside = inside }
  where
    closest : (c p : ℕ) → parent_at ps c ≡ Some p → Closest level c p
    closest c p h = rw h at (f c (row_in ps c p h))

    inside : (c p q : ℕ) → parent_at ps c ≡ Some p → p < q → q < c → NotAbove p (parent_at ps q)
    inside c p q h i j = by (parent_at ps q) (f q (omega (arith, row_in ps c p h)))
      where
        low : level p < level q
        low = let k = closest c p h in omega (arith, k.between q i j)

        by : (o : Option ℕ) → ParentBy level q o → NotAbove p o
        by None m = omega (arith, m p i, low)
        by (Some s) m = not_above (dec_lt s p)
          where
            not_above : Dec (s < p) → p ≤ s
            not_above (yes g) = absurd (omega (arith, m.between p g i, low))
            not_above (no g) = omega arith

-- ---- rows at their places

-- in an outline in order what stands for a row stands there
placed : (a m : ℕ) (before : List (ℕ × ℕ)) (x : ℕ × ℕ) (behind : List (ℕ × ℕ)) → map (λ (y : ℕ × ℕ). y.0) (before ++ (x ∷ behind)) ≡ count a m → x.0 ≡ a + length before
unfolding count
placed a zero [] x behind e = let z : ◌≡◌ {A = ℕ} 0 1 = cc in absurd (omega arith)
placed a (suc m) [] x behind e = let z : x.0 ≡ a = cc in omega arith
placed a zero (y ∷ before) x behind e = let z : ◌≡◌ {A = ℕ} 0 1 = cc in absurd (omega arith)
placed a (suc m) (y ∷ before) x behind e =
    let z : map (λ (y : ℕ × ℕ). y.0) (before ++ (x ∷ behind)) ≡ count (suc a) m = cc in omega (arith, placed (suc a) m before x behind z)

at_place : (l : List (ℕ × ℕ)) (m : ℕ) → map (λ (y : ℕ × ℕ). y.0) l ≡ count 0 m → (before : List (ℕ × ℕ)) (x : ℕ × ℕ) (behind : List (ℕ × ℕ)) → l ≡ before ++ (x ∷ behind) → At l x.0 x
at_place l m e before x behind s =
    let z : x.0 ≡ length before = omega (arith, placed 0 m before x behind (rw s at e)) in
    ap (slice_get l) z ∙ ap (λ (k : List (ℕ × ℕ)). slice_get k (length before)) s ∙ get_seam before x behind

-- and what stands after its parent one level below it
at_below : (l : List (ℕ × ℕ)) (m : ℕ) → map (λ (y : ℕ × ℕ). y.0) l ≡ count 0 m → (p c level : ℕ) → After p c l → At l p (p, level) → At l c (c, suc level)
at_below l m e p c level t h =
    let k = at_place l m e t.before (p, t.level) (t.between ++ ((c, suc t.level) ∷ t.behind)) t.split in
    let z : t.level ≡ level = ap (λ (x : ℕ × ℕ). x.1) (Some-injective (p, t.level) (p, level) (sym k ∙ h)) in
    rw (← z)
    (at_place l m e (t.before ++ ((p, t.level) ∷ t.between)) (c, suc t.level) t.behind
    (t.split ∙ sym (append_assoc t.before ((p, t.level) ∷ t.between) ((c, suc t.level) ∷ t.behind))))

-- ---- a model that was read

module _ (root : Element) where
  abbrev ps : List (Option ℕ)
  ps = parents_of (model_of root)

  rows_many : length ps ≡ length (model_of root).activities
  rows_many = length-map (model_of root).activities (λ (a : Activity). a.parent)

  parent_named : (row : ℕ) → row < length ps → ParentBy (level_at root) row (get_or ps row None)
  parent_named row h = parent_by root row (omega (arith, rows_many, as_many_lem root))

  -- the parent that is named counts
  parent_counted : (row : ℕ) → row < length ps → parent_at ps row ≡ get_or ps row None
  parent_counted row h = by (get_or ps row None) refl (parent_named row h)
    where
      by : (o : Option ℕ) → get_or ps row None ≡ o → ParentBy (level_at root) row o → parent_at ps row ≡ o
      by None e k = unfold parent_at in ap (parent_in (length ps) row) e
      by (Some p) e k = parent_counts ps row p e k.earlier h

  nested : Nested ps
  nested = nested_by (level_at root) ps (λ row h. rw (parent_counted row h) (parent_named row h))

  rows_order : map (λ (x : ℕ × ℕ). x.0) (outline_of ps) ≡ count 0 (length ps)
  rows_order = outline_order ps nested

  pub in_order_lem : map (λ (x : ℕ × ℕ). x.0) (outline (model_of root)) ≡ count 0 (length (model_of root).activities)
  unfolding outline
  in_order_lem = rows_order ∙ ap (count 0) rows_many

  module _ (row : ℕ) (a : Activity) (is : At (model_of root).activities row a) where
    row_inside : row < length ps
    row_inside = omega (arith, rows_many, at_in (model_of root).activities row a is)

    own_parent : parent_at ps row ≡ a.parent
    own_parent =
        parent_counted row row_inside ∙ get_d_at ps row None a.parent (map_at (λ (a : Activity). a.parent) (model_of root).activities row a is)

    pub level_top : a.parent ≡ None → At (outline (model_of root)) row (row, 1)
    unfolding outline
    level_top e =
        let t = outline_top ps row row_inside (own_parent ∙ e) in
        at_place (outline_of ps) (length ps) rows_order t.before (row, 1) t.behind t.split

    after_parent : (p : ℕ) → a.parent ≡ Some p → After p row (outline_of ps)
    after_parent p e =
        let once : stands row (outline_of ps) ≡ 1 = outline_stands ps nested row row_inside in
        outline_after ps p row (own_parent ∙ e) (omega arith)

  pub level_under : (row p level : ℕ) (a : Activity) → At (model_of root).activities row a → a.parent ≡ Some p → At (outline (model_of root)) p (p, level)
      → At (outline (model_of root)) row (row, suc level)
  unfolding outline
  level_under row p level a h e g = at_below (outline_of ps) (length ps) rows_order p row level (after_parent row a h p e) g
