-- Activities are made from the kept tasks, row by row: as many, each from its own task, and what stands before it is what was made before.
-- Assumes nothing.
use Rattle.std.specs.Prelude.{if◌then◌else◌, ◌≡◌, refl, Bool, true, false, replicate}
use Rattle.std.proofs.Math.Path.{sym, ap}
use Rattle.std.proofs.Common.{◌∙◌}
use mathlib.Core.List.{List, [], ◌∷◌, ◌++◌, map, append-nil, append_assoc}
use Rattle.std.specs.Prelude.{Some}
use Rattle.laws.specs.Options.{Some-injective}
use Prim.Native.Nat.{ℕ, zero, suc, ◌+◌, ◌<◌}
use native.Mathlib.Omega.{arith}
use Rattle.std.specs.Prelude.{slice_get}
use Rattle.std.proofs.Math.ListN.{length, take, length-append}
use Rattle.std.proofs.Math.Seq.{take_at}
use Rattle.definition.specs.Base.{some?, same}
use Rattle.definition.specs.Ascii.{bytes}
use Rattle.definition.specs.Text.{Text}
use Rattle.definition.specs.Tree.{Element}
use Rattle.definition.specs.Model.{Activity, Model}
use Rattle.definition.specs.Calendar.{starred, free}
use Rattle.definition.specs.Task.{Context, level_of, kept_tasks, context_of, wanted_id, activity_of, activities_after, activities}
use Rattle.definition.specs.Link.{links, entered}
use Rattle.definition.specs.Read.{model_of}
use Rattle.laws.specs.Options.{never}
use Rattle.laws.specs.Same.{same_eq}
use Rattle.laws.specs.Tests.{some_map}
use Rattle.laws.specs.FitNames.{free_shape}
use Rattle.theorems.specs.Leads.{At, passing}
use Rattle.theorems.specs.Reading.{activities_length}
use Rattle.theorems.specs.KeptTasks.{take_in, kept_uid}
use Rattle.theorems.specs.Told.{IdBefore, stars, MadeFrom}

-- ---- ids with stars

stars_length : (k : ℕ) → length (stars k) ≡ k
stars_length zero = refl
stars_length (suc k) = ap suc (stars_length k)

stars_are : (k : ℕ) → replicate k 42 ≡ stars k
stars_are zero = refl
stars_are (suc k) = ap (λ (s : Text). bytes "*" ++ s) (stars_are k)

no_stars : (n : Text) (k j : ℕ) → n ≡ n ++ stars k → j < k → ⊥
no_stars n k j e h = omega (arith, ap length e, length-append n (stars k), stars_length k)

-- with fewer stars it is one of the names
starred_taken : (k : ℕ) (names : List Text) (n : Text) (many : ℕ) → starred k names n ≡ n ++ stars many → (j : ℕ) → j < many → some? (same (n ++ stars j)) names ≡ true
unfolding starred
starred_taken zero names n many e j h = absurd (no_stars n many j e h)
starred_taken (suc k) names n zero e j h = absurd (omega arith)
starred_taken (suc k) names n (suc m) e j h = by (some? (same n) names) refl e (starred_taken k names (n ++ bytes "*") m) j h
  where
    by : (t : Bool) → some? (same n) names ≡ t → (if t then starred k names (n ++ bytes "*") else n) ≡ n ++ stars (suc m)
        → (starred k names (n ++ bytes "*") ≡ (n ++ bytes "*") ++ stars m → (j : ℕ) → j < m → some? (same ((n ++ bytes "*") ++ stars j)) names ≡ true)
        → (j : ℕ) → j < suc m → some? (same (n ++ stars j)) names ≡ true
    by false i e more j h = absurd (no_stars n (suc m) j e h)
    by true i e more zero h = rw (append-nil n) i
    by true i e more (suc j) h = rw (append_assoc n (bytes "*") (stars j)) at (more (e ∙ sym (append_assoc n (bytes "*") (stars m))) j (omega arith))

-- so it is the id of an activity before the row
id_before : (m : Model) (row : ℕ) (id : Text) → some? (same id) (map (λ (a : Activity). a.id) (take row m.activities)) ≡ true → IdBefore m row id
id_before m row id h =
    let p : Activity → Bool = λ a. same id a.id in
    let t = passing p (take row m.activities) (sym (some_map (same id) (λ (a : Activity). a.id) (take row m.activities)) ∙ h) in
    let (b, e) = take_in row m.activities t.row t.item t.is in
    record { earlier = t.row; before = b; activity = t.item; is = e; named = sym (same_eq id t.item.id t.holds) }

-- ---- one after another

pub get_seam : {A : Type 0} (front : List A) (x : A) (l : List A) → At (front ++ (x ∷ l)) (length front) x
get_seam [] x l = refl
get_seam (y ∷ front) x l = get_seam front x l

module _ (x : Context) (entered : ℕ → Bool) where
  abbrev next : List Activity → List ℕ → Element → Activity
  next done levels t = activity_of x (map (λ (a : Activity). a.id) done) levels (entered (length done)) t

  -- those that were made stay in front
  after_front : (done : List Activity) (levels : List ℕ) (ts : List Element) → (rest : List Activity) × (activities_after x entered done levels ts ≡ done ++ rest)
  unfolding activities_after
  after_front done levels [] = ([], sym (append-nil done))
  after_front done levels (t ∷ ts) =
      let a = next done levels t in
      let (rest, e) = after_front (done ++ (a ∷ [])) (levels ++ (level_of t ∷ [])) ts in
      (a ∷ rest, e ∙ append_assoc done (a ∷ []) rest)

  after_at : (done : List Activity) (levels : List ℕ) (ts : List Element) (k row : ℕ) (t : Element) (a : Activity) → row ≡ length done + k
      → At ts k t → At (activities_after x entered done levels ts) row a
      → a ≡ activity_of x (map (λ (b : Activity). b.id) (take row (activities_after x entered done levels ts))) (levels ++ map level_of (take k ts)) (entered row) t
  unfolding activities_after
  after_at done levels [] k row t a r e f = never e
  after_at done levels (u ∷ ts) zero row t a r e f =
      let b = next done levels u in
      let (rest, w) = after_front (done ++ (b ∷ [])) (levels ++ (level_of u ∷ [])) ts in
      here rest (w ∙ append_assoc done (b ∷ []) rest) (r ∙ omega arith) f (Some-injective u t e)
    where
      here : (rest : List Activity) {whole : List Activity} → whole ≡ done ++ (next done levels u ∷ rest) → row ≡ length done → At whole row a → u ≡ t
          → a ≡ activity_of x (map (λ (b : Activity). b.id) (take row whole)) (levels ++ []) (entered row) t
      here rest {whole} w r f e =
          let b = next done levels u in
          let g : At whole row b = ap (slice_get whole) r ∙ ap (λ (l : List Activity). slice_get l (length done)) w ∙ get_seam done b rest in
          let z : b ≡ a = Some-injective b a (sym g ∙ f) in
          let d : take row whole ≡ done = ap (take row) w ∙ take_at done (b ∷ rest) row (sym r) in
          rw (d, r, ← e, append-nil levels) (sym z)
  after_at done levels (u ∷ ts) (suc k) row t a r e f =
      let b = next done levels u in
      let i = after_at (done ++ (b ∷ [])) (levels ++ (level_of u ∷ [])) ts k row t a (omega (arith, length-append done (b ∷ []))) e f in
      rw (append_assoc levels (level_of u ∷ []) (map level_of (take k ts))) at i

-- ---- all of them

module _ (root : Element) where
  pub as_many_lem : length (model_of root).activities ≡ length (kept_tasks root)
  unfolding model_of activities context_of
  as_many_lem = activities_length (context_of root) (entered (links (context_of root))) [] [] (kept_tasks root) ∙ omega arith

  pub made : (row : ℕ) (t : Element) (a : Activity) → At (kept_tasks root) row t → At (model_of root).activities row a → MadeFrom root (model_of root) row t a
  unfolding model_of activities context_of activity_of
  made row t a e f =
      let x = context_of root in
      let w = after_at x (entered (links x)) [] [] (kept_tasks root) row row t a (omega arith) e f in
      let ids = map (λ (b : Activity). b.id) (take row (model_of root).activities) in
      let s = free_shape ids (wanted_id t) in
      let f : free ids (wanted_id t) ≡ wanted_id t ++ stars s.stars = s.is ∙ ap (λ (l : Text). wanted_id t ++ l) (stars_are s.stars) in
      record {
        whole = w;
        uid = kept_uid root row t e ∙ ap (λ (b : Activity). Some b.uid) (sym w);
        name = ap (λ (b : Activity). b.name) w;
        notes = ap (λ (b : Activity). b.notes) w;
        deadline = ap (λ (b : Activity). b.deadline) w;
        start = ap (λ (b : Activity). b.start) w;
        finish = ap (λ (b : Activity). b.finish) w;
        id = record {
          many = s.stars;
          is = ap (λ (b : Activity). b.id) w ∙ f;
          taken = λ k h. id_before (model_of root) row (wanted_id t ++ stars k) (starred_taken (length ids) ids (wanted_id t) s.stars f k h);
        };
      }
