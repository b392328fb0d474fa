-- What stands ahead of the walk, and that a step takes one row of it. Assumes nothing.
use Rattle.std.specs.Prelude.{if◌then◌else◌}
use mathlib.Core.Path.{◌≡◌, refl, sym, ap, ◌∙◌}
use mathlib.Core.Bool.{Bool, true, false}
use mathlib.Core.List.{List, [], ◌∷◌, ◌++◌, flat_map, append_assoc, append-nil}
use Rattle.std.specs.Prelude.{Option, Some, None}
use Prim.Native.Nat.{ℕ, zero, suc, ◌+◌, ◌-◌, ◌*◌, ◌≤◌, ◌<◌}
use native.Mathlib.Numerals.{add-one}
use native.Mathlib.Omega.{arith}
use borrow.Author.Tests.{ltb-false, eqb-true, ne_eqb}
use lib.Dec.{ltb}
use lib.ListN.{length, get_or, take, set, length-set, length-append}
use lib.Seq.{take-suc-set}
use Rattle.definition.specs.Base.{◌or_else◌, keep, first, count}
use Rattle.definition.specs.Outline.{parent_at, top_rows, child_rows, under, outline_of}
use Rattle.definition.specs.Refusal.{row_words}
use Rattle.laws.specs.Outlines.{no_levels, parent_in_lem}
use Rattle.laws.proofs.Outlines.{outline_length}
use Rattle.outline.specs.Words.{no_row}
use Rattle.outline.specs.declared.Visit.{Visit}
use Rattle.outline.specs.Steps.{word_of, home_of, same_parent, siblings, later, Links, visit_of, climb_of, step_of}

-- ---- the rows of one parent

record Found (p : ℕ → Bool) (n a c : ℕ) (l : List ℕ) : Type 0 where
  passes : p c ≡ true
  low : a ≤ c
  high : c < n
  cut : l ≡ c ∷ keep p (count (suc c) (n - suc c))

found : (p : ℕ → Bool) (n c m a : ℕ) → a + m ≡ n → first (keep p (count a m)) ≡ Some c → Found p n a c (keep p (count a m))
unfolding keep first count
found p n c zero a e h = let z : ◌≡◌ {A = ℕ} 0 1 = cc in absurd (omega arith)
found p n c (suc m) a e h = go (p a) refl h (found p n c m (suc a) (omega arith))
  where
    go : (t : Bool) → p a ≡ t → first (if t then a ∷ keep p (count (suc a) m) else keep p (count (suc a) m)) ≡ Some c
        → (first (keep p (count (suc a) m)) ≡ Some c → Found p n (suc a) c (keep p (count (suc a) m)))
        → Found p n a c (if t then a ∷ keep p (count (suc a) m) else keep p (count (suc a) m))
    go true t k f =
        let q : a ≡ c = cc in
        let r : m ≡ n - suc c = omega arith in
        record { passes = cc; low = omega arith; high = omega arith; cut = cc }
    go false t k f = record { passes = (f k).passes; low = omega (arith, (f k).low); high = (f k).high; cut = (f k).cut }

first_none : (l : List ℕ) → first l ≡ None → l ≡ []
unfolding first
first_none [] h = refl
first_none (x ∷ l) h = let z : ◌≡◌ {A = ℕ} 0 1 = cc in absurd (omega arith)

pub same_parent_lem : (o u : Option ℕ) → same_parent o u ≡ true → u ≡ o
same_parent_lem None None h = refl
same_parent_lem None (Some q) h = let z : ◌≡◌ {A = ℕ} 0 1 = cc in absurd (omega arith)
same_parent_lem (Some p) None h = let z : ◌≡◌ {A = ℕ} 0 1 = cc in absurd (omega arith)
same_parent_lem (Some p) (Some q) h = ap Some (eqb-true q p h)

module _ (ps : List (Option ℕ)) where
  record Head (o : Option ℕ) (a c : ℕ) : Type 0 where
    parent : parent_at ps c ≡ o
    high : c < length ps
    cut : siblings ps o a ≡ c ∷ later ps c

  headed : (o : Option ℕ) (a c : ℕ) → a ≤ length ps → first (siblings ps o a) ≡ Some c → Head o a c
  unfolding siblings
  headed o a c l h =
      let f : Found (λ c. same_parent o (parent_at ps c)) (length ps) a c (siblings ps o a) =
      found (λ c. same_parent o (parent_at ps c)) (length ps) c (length ps - a) a (omega arith) h in
      let q : parent_at ps c ≡ o = same_parent_lem o (parent_at ps c) f.passes in
      record { parent = q; high = f.high; cut = f.cut ∙ ap (λ (u : Option ℕ). c ∷ siblings ps u (suc c)) (sym q) }

  -- ---- what stands ahead

  -- rows at a depth, with all below them
  abbrev pub all : ℕ → List ℕ → List (ℕ × ℕ)
  all d = flat_map (under (length ps - d) ps (suc d))

  -- behind a row at depth d - 1 and all below it
  unfoldable pub rest : ℕ → ℕ → List (ℕ × ℕ)
  rest zero r = []
  rest (suc d) r = all d (later ps r) ++ rest d (home_of (parent_at ps r))

  -- from a visited row on
  unfoldable pub ahead : Option Visit → List (ℕ × ℕ)
  ahead None = []
  ahead (Some v) = under (length ps - v.depth) ps (suc v.depth) v.row ++ rest (suc v.depth) v.row

  rows_ahead : (o : Option ℕ) (a c d : ℕ) → Head o a c → all d (siblings ps o a) ++ rest d (home_of o) ≡ ahead (Some (record { row = c; depth = d }))
  unfolding flat_map rest ahead
  rows_ahead o a c d h =
      ap (λ (l : List ℕ). all d l ++ rest d (home_of o)) h.cut
      ∙ append_assoc (under (length ps - d) ps (suc d) c) (all d (later ps c)) (rest d (home_of o))
      ∙ ap (λ (u : Option ℕ). under (length ps - d) ps (suc d) c ++ (all d (later ps c) ++ rest d (home_of u))) (sym h.parent)

  -- a row with all below it: the row, then its children
  open_row : (v : Visit) → v.depth < length ps
      → ahead (Some v) ≡ (v.row, suc v.depth) ∷ (all (suc v.depth) (siblings ps (Some v.row) 0) ++ rest (suc v.depth) v.row)
  unfolding ahead under child_rows siblings
  open_row v h =
      let e : length ps - v.depth ≡ suc (length ps - suc v.depth) = omega arith in
      let z : length ps ≡ length ps - 0 = omega arith in
      ap (λ (k : ℕ). under k ps (suc v.depth) v.row ++ rest (suc v.depth) v.row) e
      ∙ ap (λ (m : ℕ). (v.row, suc v.depth) ∷ (all (suc v.depth) (keep (λ c. same_parent (Some v.row) (parent_at ps c)) (count 0 m)) ++ rest (suc v.depth) v.row)) z

  open_top : outline_of ps ≡ all 0 (siblings ps None 0) ++ rest 0 0
  unfolding outline_of top_rows siblings rest
  open_top =
      let z : length ps ≡ length ps - 0 = omega arith in
      ap (λ (m : ℕ). flat_map (under m ps 1) (keep (λ c. same_parent None (parent_at ps c)) (count 0 m))) z
      ∙ sym (append-nil (all 0 (siblings ps None 0)))

-- ---- the walk's places

visit_some : (c d : ℕ) → (c ≡ no_row → ⊥) → visit_of c d ≡ Some (record { row = c; depth = d })
visit_some c d h = rw (ne_eqb c no_row h)

else_none : (o : Option Visit) → (o or_else None) ≡ o
else_none None = refl
else_none (Some v) = refl

abbrev pub In : List (Option ℕ) → Option Visit → Type 0
In ps at = (v : Visit) → at ≡ Some v → v.row < length ps

-- the walk is at a place, and a list of rows stands ahead
pub record Ahead (ps : List (Option ℕ)) (at : Option Visit) (l : List (ℕ × ℕ)) : Type 0 where
  pub rows : l ≡ ahead ps at
  pub high : In ps at

module _ (ps : List (Option ℕ)) (few : length ps ≤ no_row) where
  nothing : Ahead ps None []
  unfolding ahead
  nothing = record { rows = refl; high = λ v e. let z : ◌≡◌ {A = ℕ} 0 1 = cc in absurd (omega arith) }

  -- the rows of a list, by the word that begins it, and then what stands behind
  listed : (o : Option ℕ) (a d x : ℕ) {at : Option Visit} → a ≤ length ps → x ≡ word_of (first (siblings ps o a)) → Ahead ps at (rest ps d (home_of o))
      → Ahead ps (visit_of x d or_else at) (all ps d (siblings ps o a) ++ rest ps d (home_of o))
  unfolding flat_map
  listed o a d x {at} l e behind = go (first (siblings ps o a)) refl e
    where
      go : (u : Option ℕ) → first (siblings ps o a) ≡ u → x ≡ word_of u → Ahead ps (visit_of x d or_else at) (all ps d (siblings ps o a) ++ rest ps d (home_of o))
      go None h k = rw (k, first_none (siblings ps o a) h) behind
      go (Some c) h k =
          let f : Head ps o a c = headed ps o a c l h in
          rw (k, visit_some c d (λ q. omega (arith, f.high)))
          (record { rows = rows_ahead ps o a c d f; high = λ v q. let z : c ≡ v.row = cc in omega (arith, f.high) })

  home_in : (r : ℕ) → r < length ps → home_of (parent_at ps r) < length ps
  home_in r h = go (parent_at ps r) refl
    where
      go : (o : Option ℕ) → parent_at ps r ≡ o → home_of o < length ps
      go None e = omega arith
      go (Some p) e = parent_in_lem ps r p e

  module _ (w : List ℕ) (links : Links ps 0 w) where
    climb_ahead : (d r : ℕ) → r < length ps → Ahead ps (climb_of w d r) (rest ps (suc d) r)
    unfolding climb_of rest
    climb_ahead zero r h =
        rw (← else_none (visit_of (get_or w (4 * r + 2) 0) 0))
        (listed (parent_at ps r) (suc r) 0 (get_or w (4 * r + 2) 0) h (links.next r (omega arith) h) nothing)
    climb_ahead (suc d) r h =
        rw (links.home r (omega arith) h)
        (listed (parent_at ps r) (suc r) (suc d) (get_or w (4 * r + 2) 0) h (links.next r (omega arith) h) (climb_ahead d (home_of (parent_at ps r)) (home_in r h)))

    -- a row's children, then what stands behind it
    step_ahead : (d r : ℕ) → r < length ps → d < length ps → Ahead ps (step_of (length ps) w r d) (all ps (suc d) (siblings ps (Some r) 0) ++ rest ps (suc d) r)
    unfolding step_of flat_map
    step_ahead d r h k = go (ltb (d + 1) (length ps)) refl
      where
        deep : length ps ≤ d + 1 → all ps (suc d) (siblings ps (Some r) 0) ≡ []
        deep l =
            let z : length ps - suc d ≡ 0 = omega arith in
            ap (λ (m : ℕ). flat_map (under m ps (suc (suc d))) (siblings ps (Some r) 0)) z ∙ no_levels ps (suc (suc d)) (siblings ps (Some r) 0)

        go : (t : Bool) → ltb (d + 1) (length ps) ≡ t
            → Ahead ps (if t then visit_of (get_or w (4 * r + 1) 0) (d + 1) or_else climb_of w d r else climb_of w d r) (all ps (suc d) (siblings ps (Some r) 0) ++ rest ps (suc d) r)
        go true t = rw (add-one d) (listed (Some r) 0 (suc d) (get_or w (4 * r + 1) 0) (omega arith) (links.head (Some r) h) (climb_ahead d r h))
        go false t = rw (deep (ltb-false (d + 1) (length ps) t)) (climb_ahead d r h)

    start_ahead : 0 < length ps → Ahead ps (visit_of (get_or w (4 * 0 + 3) 0) 0) (outline_of ps)
    unfolding rest
    start_ahead h =
        rw (open_top ps, ← else_none (visit_of (get_or w (4 * 0 + 3) 0) 0)) (listed None 0 0 (get_or w (4 * 0 + 3) 0) (omega arith) (links.head None h) nothing)

-- ---- the rows written

-- so many words are written, and the walk is at a place
pub record Going (ps : List (Option ℕ)) (done : List ℕ) (at : Option Visit) : Type 0 where
  pub words : row_words (outline_of ps) ≡ done ++ row_words (ahead ps at)
  pub high : In ps at

pub going_start : (ps : List (Option ℕ)) (w rows : List ℕ) {at : Option Visit} → length ps ≤ no_row → 0 < length ps → Links ps 0 w → at ≡ visit_of (get_or w (4 * 0 + 3) 0) 0
    → Going ps (take (2 * 0) rows) at
going_start ps w rows few h links e =
    let a = start_ahead ps few w links h in
    rw e (record { words = ap row_words a.rows; high = a.high })

going_more : (ps : List (Option ℕ)) (w done : List ℕ) (v : Visit) → length ps ≤ no_row → Links ps 0 w → Going ps done (Some v) → v.depth < length ps
    → Going ps (done ++ (v.row ∷ (v.depth + 1) ∷ [])) (step_of (length ps) w v.row v.depth)
unfolding flat_map
going_more ps w done v few links going deep =
    let at : Option Visit = step_of (length ps) w v.row v.depth in
    let a = step_ahead ps few w links v.depth v.row (going.high v refl) deep in
    let e : ahead ps (Some v) ≡ (v.row, v.depth + 1) ∷ ahead ps at =
    open_row ps v deep
    ∙ ap (λ (l : List (ℕ × ℕ)). (v.row, suc v.depth) ∷ l) a.rows
    ∙ ap (λ (n : ℕ). (v.row, n) ∷ ahead ps at) (sym (add-one v.depth)) in
    record {
      words =
          going.words
          ∙ ap (λ (l : List (ℕ × ℕ)). done ++ row_words l) e
          ∙ sym (append_assoc done (v.row ∷ (v.depth + 1) ∷ []) (row_words (ahead ps at)));
      high = a.high;
    }

pub going_none : (ps : List (Option ℕ)) (done : List ℕ) {at : Option Visit} → Going ps done at → at ≡ None → row_words (outline_of ps) ≡ done
unfolding flat_map ahead
going_none ps done going is = going.words ∙ ap (λ (o : Option Visit). done ++ row_words (ahead ps o)) is ∙ append-nil done

length_words : (l : List (ℕ × ℕ)) → length (row_words l) ≡ 2 * length l
unfolding flat_map
length_words [] = refl
length_words (x ∷ l) = omega (arith, length_words l)

empty : (l : List ℕ) → length l ≤ 0 → l ≡ []
empty [] h = refl
empty (x ∷ l) h = absurd (omega arith)

-- as many rows as activities are all rows, and with no activities there are none
pub going_full : (ps : List (Option ℕ)) (done : List ℕ) {at : Option Visit} → (0 < length ps → Going ps done at) → length done ≡ 2 * length ps → row_words (outline_of ps) ≡ done
going_full ps done {at} going long = by (length ps) refl
  where
    by : (n : ℕ) → length ps ≡ n → row_words (outline_of ps) ≡ done
    by zero e =
        empty (row_words (outline_of ps)) (omega (arith, length_words (outline_of ps), outline_length ps)) ∙ sym (empty done (omega arith))
    by (suc n) e =
        let g : Going ps done at = going (omega arith) in
        let z : row_words (ahead ps at) ≡ [] =
        empty (row_words (ahead ps at)) (omega (arith, ap length g.words, length-append done (row_words (ahead ps at)), length_words (outline_of ps), outline_length ps)) in
        g.words ∙ ap (λ (l : List ℕ). done ++ l) z ∙ append-nil done

-- a row written
pub row_taken : (k a b : ℕ) (rows : List ℕ) {rows' : List ℕ} → rows' ≡ set (set rows (2 * k) a) (2 * k + 1) b → 2 * k + 1 < length rows
    → take (2 * (k + 1)) rows' ≡ take (2 * k) rows ++ (a ∷ b ∷ [])
row_taken k a b rows e h =
    let n : 2 * (k + 1) ≡ suc (suc (2 * k)) = omega arith in
    let m : 2 * k + 1 ≡ suc (2 * k) = omega arith in
    let l : List ℕ = set rows (2 * k) a in
    let s : length l ≡ length rows = length-set rows (2 * k) a in
    let u : take (suc (2 * k)) l ≡ take (2 * k) rows ++ (a ∷ []) = take-suc-set rows (2 * k) a (omega arith) in
    let v : take (suc (suc (2 * k))) (set l (suc (2 * k)) b) ≡ take (suc (2 * k)) l ++ (b ∷ []) = take-suc-set l (suc (2 * k)) b (omega arith) in
    ap (take (2 * (k + 1))) e
    ∙ ap (λ (i : ℕ). take (2 * (k + 1)) (set l i b)) m
    ∙ ap (λ (i : ℕ). take i (set l (suc (2 * k)) b)) n
    ∙ v
    ∙ ap (λ (t : List ℕ). t ++ (b ∷ [])) u
    ∙ append_assoc (take (2 * k) rows) (a ∷ []) (b ∷ [])

pub length_put : (rows : List ℕ) {rows' : List ℕ} (i j a b : ℕ) → rows' ≡ set (set rows i a) j b → length rows' ≡ length rows
length_put rows i j a b e = ap length e ∙ length-set (set rows i a) j b ∙ length-set rows i a

-- a turn of the walk
pub going_on : (ps : List (Option ℕ)) (n : ℕ) (w rows : List ℕ) (k : ℕ) (v : Visit) {rows' : List ℕ} {at next : Option Visit} → n ≡ length ps → n ≤ no_row → Links ps 0 w
    → Going ps (take (2 * k) rows) at → at ≡ Some v → v.depth < n → 2 * k + 1 < length rows
    → rows' ≡ set (set rows (2 * k) v.row) (2 * k + 1) (v.depth + 1) → next ≡ step_of n w v.row v.depth → Going ps (take (2 * (k + 1)) rows') next
going_on ps n w rows k v {at = at} {next = next} e few links going is deep room put step =
    let s : next ≡ step_of (length ps) w v.row v.depth = step ∙ ap (λ (m : ℕ). step_of m w v.row v.depth) e in
    rw (row_taken k v.row (v.depth + 1) rows put room, s)
    (going_more ps w (take (2 * k) rows) v (omega arith) links (rw is at going) (omega arith))
