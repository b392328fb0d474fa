-- The parent of each activity is the nearest earlier kept task of a lower level; it has none exactly where there is no such task. Assumes nothing.
use Rattle.std.specs.Prelude.{◌≡◌, refl, Bool, List, [], ◌∷◌, ◌++◌, map, ℕ, zero, suc, ◌+◌, ◌≤◌, ◌<◌, ltb, length, get_or}
use Rattle.std.proofs.Common.{sym, ap, ◌∙◌, append-nil, append_assoc, arith, ltb-true, ltb-false, length-append}
use Rattle.std.proofs.lemmas.List.{map-append, length-map}
use Rattle.std.specs.Prelude.{Option, Some, None}
use Rattle.std.proofs.Math.ListN.{get_or-append}
use Rattle.std.proofs.Math.Seq.{get_or-append_seam}
use Rattle.definition.specs.Tree.{Element}
use Rattle.definition.specs.Model.{Activity}
use Rattle.definition.specs.Task.{Context, level_of, kept_tasks, context_of, parent_of, activity_of, activities_after, activities}
use Rattle.definition.specs.Link.{links, entered}
use Rattle.definition.specs.Read.{model_of}
use Rattle.theorems.specs.Leads.{At, map_at, at_in}
use Rattle.theorems.specs.Outlines.{parents_of}
use Rattle.theorems.specs.Told.{IsParent}
use Rattle.theorems.specs.LastRow.{RowFound, nowhere, found, none_at, last_row}
use Rattle.theorems.specs.Made.{as_many_lem}

-- ---- parents by levels

-- the nearest earlier row of a lower level
pub record Closest (level : ℕ → ℕ) (row p : ℕ) : Type 0 where
  pub earlier : p < row
  pub lower : level p < level row
  pub between : (q : ℕ) → p < q → q < row → level row ≤ level q

abbrev pub ParentBy : (ℕ → ℕ) → ℕ → Option ℕ → Type 0
ParentBy level row None = (q : ℕ) → q < row → level row ≤ level q
ParentBy level row (Some p) = Closest level row p

-- those of rows of some levels that come after others
abbrev pub parents_after : List ℕ → List ℕ → List (Option ℕ)
parents_after before [] = []
parents_after before (l ∷ ls) = parent_of before l ∷ parents_after (before ++ (l ∷ [])) ls

at_get_d : {A : Type 0} (l : List A) (i : ℕ) (d : A) → i < length l → At l i (get_or l i d)
at_get_d [] i d h = absurd (omega arith)
at_get_d (x ∷ l) zero d h = refl
at_get_d (x ∷ l) (suc i) d h = at_get_d l i d (omega arith)

pub get_d_at : {A : Type 0} (l : List A) (i : ℕ) (d x : A) → At l i x → get_or l i d ≡ x
get_d_at l i d x h = let k = at_get_d l i d (at_in l i x h) in cc

parent_last : (levels : List ℕ) (l : ℕ) → RowFound (λ m. ltb m l) 0 levels (parent_of levels l)
unfolding parent_of
parent_last levels l = last_row (λ m. ltb m l) 0 levels

module _ (all : List ℕ) where
  abbrev at : ℕ → ℕ
  at i = get_or all i 0

  parent_here : (before : List ℕ) (l : ℕ) (ls : List ℕ) → all ≡ before ++ (l ∷ ls) → {o : Option ℕ} → RowFound (λ m. ltb m l) 0 before o → ParentBy at (length before) o
  parent_here before l ls e = by
    where
      own : at (length before) ≡ l
      own = ap (λ (s : List ℕ). get_or s (length before) 0) e ∙ get_or-append_seam before l ls 0

      early : (q : ℕ) → q < length before → At before q (at q)
      early q h = rw (e, get_or-append before (l ∷ ls) 0 q h) (at_get_d before q 0 h)

      by : {o : Option ℕ} → RowFound (λ m. ltb m l) 0 before o → ParentBy at (length before) o
      by (nowhere s) = λ q h. omega (arith, own, ltb-false (at q) l (none_at (λ m. ltb m l) before s q (at q) (early q h)))
      by (found p row r s f) =
          let z : row ≡ p = omega arith in
          let h : p < length before = at_in before p f.item f.is in
          let k : at p ≡ f.item = let z = early p h in cc f.is in
          rw
          z
          (record {
            earlier = h;
            lower = omega (arith, own, ltb-true f.item l f.holds);
            between = λ q g i. omega (arith, own, ltb-false (at q) l (f.last q (at q) g (early q i)));
          })

  parents_by : (before ls : List ℕ) (row r : ℕ) → all ≡ before ++ ls → r ≡ length before + row → row < length ls → ParentBy at r (get_or (parents_after before ls) row None)
  parents_by before [] row r e k h = absurd (omega arith)
  parents_by before (l ∷ ls) zero r e k h =
      let z : r ≡ length before = omega arith in
      rw z (parent_here before l ls e (parent_last before l))
  parents_by before (l ∷ ls) (suc row) r e k h =
      parents_by (before ++ (l ∷ [])) ls row r (e ∙ sym (append_assoc before (l ∷ []) ls)) (omega (arith, length-append before (l ∷ []))) (omega arith)

-- ---- the activities

abbrev parents : List Activity → List (Option ℕ)
parents = map (λ (a : Activity). a.parent)

parents_after_lem : (x : Context) (entered : ℕ → Bool) (done : List Activity) (levels : List ℕ) (ts : List Element)
    → parents (activities_after x entered done levels ts) ≡ parents done ++ parents_after levels (map level_of ts)
unfolding activities_after activity_of
parents_after_lem x entered done levels [] = sym (append-nil (parents done))
parents_after_lem x entered done levels (t ∷ ts) =
    let a = activity_of x (map (λ (a : Activity). a.id) done) levels (entered (length done)) t in
    parents_after_lem x entered (done ++ (a ∷ [])) (levels ++ (level_of t ∷ [])) ts
    ∙ ap (λ (l : List (Option ℕ)). l ++ parents_after (levels ++ (level_of t ∷ [])) (map level_of ts)) (map-append (λ (a : Activity). a.parent) done (a ∷ []))
    ∙ append_assoc (parents done) (a.parent ∷ []) (parents_after (levels ++ (level_of t ∷ [])) (map level_of ts))

pub model_parents : (root : Element) → parents_of (model_of root) ≡ parents_after [] (map level_of (kept_tasks root))
unfolding model_of activities context_of
model_parents root = parents_after_lem (context_of root) (entered (links (context_of root))) [] [] (kept_tasks root)

module _ (root : Element) where
  -- the level of each row
  abbrev pub level_at : ℕ → ℕ
  level_at row = get_or (map level_of (kept_tasks root)) row 0

  level_at_lem : (row : ℕ) (t : Element) → At (kept_tasks root) row t → level_at row ≡ level_of t
  level_at_lem row t h = get_d_at (map level_of (kept_tasks root)) row 0 (level_of t) (map_at level_of (kept_tasks root) row t h)

  pub parent_by : (row : ℕ) → row < length (kept_tasks root) → ParentBy level_at row (get_or (parents_of (model_of root)) row None)
  parent_by row h =
      rw (model_parents root)
      (parents_by (map level_of (kept_tasks root)) [] (map level_of (kept_tasks root)) row row refl (omega arith) (omega (arith, length-map (kept_tasks root) level_of)))

  pub nearest_parent : (row : ℕ) (a : Activity) → At (model_of root).activities row a → IsParent (kept_tasks root) row a.parent
  nearest_parent row a h = by a.parent (rw own at (parent_by row (omega (arith, as_many_lem root, at_in (model_of root).activities row a h))))
    where
      own : get_or (parents_of (model_of root)) row None ≡ a.parent
      own = get_d_at (parents_of (model_of root)) row None a.parent (map_at (λ (a : Activity). a.parent) (model_of root).activities row a h)

      by : (o : Option ℕ) → ParentBy level_at row o → IsParent (kept_tasks root) row o
      by None f = λ q t u k i j. omega (arith, f q k, level_at_lem row t i, level_at_lem q u j)
      by (Some p) f =
          record {
            earlier = f.earlier;
            lower = λ t u i j. omega (arith, f.lower, level_at_lem row t i, level_at_lem p u j);
            between = λ q t u k l i j. omega (arith, f.between q k l, level_at_lem row t i, level_at_lem q u j);
          }
