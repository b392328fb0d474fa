-- What the passes over all records tell, in the definition's words; and the refusals in their order. Assumes nothing.
use mathlib.Core.Path.{◌≡◌, refl, ap, sym, ◌∙◌}
use Rattle.definition.specs.declared.Duration.{Duration}
use Rattle.definition.specs.declared.Unread.{Unread}
use Rattle.definition.specs.declared.Refusal.{Refusal}
use Rattle.std.specs.Option.{ok_or}
use Rattle.std.specs.List.{list_all, prefix_len}
use Rattle.std.specs.Iterator.{YieldsFirstBy}
use Rattle.std.specs.Prelude.{Err, Float, None, Ok, Option, Result, Some}
use mathlib.Core.Logic.{◌⊎◌, inl, inr}
use mathlib.Core.List.{List, [], ◌∷◌}
use mathlib.Core.Bool.{Bool, true, false, ◌&&◌}
use Prim.Native.Nat.{ℕ, suc, ◌+◌, ◌≤◌, ◌<◌}
use native.Mathlib.Omega.{arith}
use lib.ListN.{length, take}
use lib.Dec.{ltb}
use borrow.Author.Tests.{le-leb, lt-leb, le-ltb, lt-ltb}
use Rattle.definition.specs.Base.{every?, some?, same}
use Rattle.definition.specs.Ascii.{bytes}
use Rattle.definition.specs.Text.{Text, trim}
use Rattle.definition.specs.Number.{number_of}
use Rattle.definition.specs.Tree.{Rec, records, layout, element, deeper, below_root}
use Rattle.definition.specs.Duration.{duration_of}
use Rattle.tree.specs.declared.Head.{Head}
use Rattle.tree.specs.declared.Heads.{Heads}
use Rattle.tree.specs.Walks.{heads_left}
use Rattle.tree.specs.Place.{record_by, verdict, element_at}
use Rattle.definition.specs.Refusal.{utf8?, project?, long?, number_names, duration_names, long_in, too_long, tree_refusal, most_elements}
use Rattle.tree.proofs.Records.{le_or_lt}

-- ---- all records, and those below the root

-- `all`, in the definition's word
pub all_is : {A : Type 0} (p : A → Bool) (l : List A) → list_all p l ≡ every? p l
unfolding every?
all_is p [] = refl
all_is p (x ∷ l) = ap (λ (b : Bool). p x && b) (all_is p l)

take_more : {A : Type 0} (k : ℕ) (x : A) (l : List A) → take (1 + k) (x ∷ l) ≡ x ∷ take k l
take_more k x l = let e : 1 + k ≡ suc k = omega arith in rw e

-- as far as `take_while` goes
deeper_is : (rs : List Rec) → take (prefix_len (λ (r : Rec). ltb 1 r.depth) rs) rs ≡ deeper rs
unfolding deeper
deeper_is [] = refl
deeper_is (r ∷ rs) = go (le_or_lt r.depth 1) (deeper_is rs)
  where
    go : (r.depth ≤ 1) ⊎ (1 < r.depth) → take (prefix_len (λ (r : Rec). ltb 1 r.depth) rs) rs ≡ deeper rs → take (prefix_len (λ (r : Rec). ltb 1 r.depth) (r ∷ rs)) (r ∷ rs) ≡ deeper (r ∷ rs)
    go (inl p) i = simp (le-leb _ _ p, le-ltb 1 r.depth p)
    go (inr p) i = simp (lt-leb _ _ p, lt-ltb 1 r.depth p, take_more) (ap (λ (l : List Rec). r ∷ l) i)

-- those behind the root, which `next` gave
pub below_is : (s t : Heads) (o : Option Head) → YieldsFirstBy record_by heads_left s o t
    → take (prefix_len (λ (r : Rec). ltb 1 r.depth) (heads_left t)) (heads_left t) ≡ below_root (heads_left s)
unfolding below_root
below_is s t None h = rw (h.0, h.1)
below_is s t (Some r) h = rw h (deeper_is (heads_left t))

-- ---- the refusals

pub project_is : (rs : List Rec) → same (element rs).name (bytes "Project") ≡ project? rs
unfolding element project? same
project_is [] = refl
project_is (r ∷ rs) = refl

verdict_fine : (s : Text) → layout s ≡ true → verdict s ≡ Some (length (records s))
unfolding verdict
verdict_fine s h = rw h

verdict_broken : (s : Text) → layout s ≡ false → verdict s ≡ None
unfolding verdict
verdict_broken s h = rw h

-- what a verdict tells of the layout
broken_is : (s : Text) → verdict s ≡ None → layout s ≡ false
broken_is s h = go (layout s) refl
  where
    go : (x : Bool) → layout s ≡ x → layout s ≡ false
    go true e = let f = verdict_fine s e in let z : ◌≡◌ {A = ℕ} 0 1 = cc in absurd (omega arith)
    go false e = e

fine_is : (s : Text) {n : ℕ} → verdict s ≡ Some n → (layout s ≡ true) × (length (records s) ≡ n)
fine_is s {n} h = go (layout s) refl
  where
    go : (x : Bool) → layout s ≡ x → (layout s ≡ true) × (length (records s) ≡ n)
    go true e = let f = verdict_fine s e in (e, cc)
    go false e = let f = verdict_broken s e in let z : ◌≡◌ {A = ℕ} 0 1 = cc in absurd (omega arith)

-- a count that is asked for by `?`
pub ok_is : (o : Option ℕ) (e : Refusal) {n : ℕ} → ok_or o e ≡ Ok n → o ≡ Some n
ok_is (Some m) e h = cc
ok_is None e h = let z : ◌≡◌ {A = ℕ} 0 1 = cc in absurd (omega arith)

pub err_is : (o : Option ℕ) (e : Refusal) {x : Refusal} → ok_or o e ≡ Err x → (o ≡ None) × (x ≡ e)
err_is (Some m) e h = let z : ◌≡◌ {A = ℕ} 0 1 = cc in absurd (omega arith)
err_is None e h = (refl, cc)

module _ (s : Text) where
  pub refused_1 : verdict s ≡ None → 1 ≡ tree_refusal s
  unfolding tree_refusal
  refused_1 v = rw (broken_is s v)

  module _ {n : ℕ} (v : verdict s ≡ Some n) where
    pub refused_2 : every? utf8? (records s) ≡ false → 2 ≡ tree_refusal s
    unfolding tree_refusal
    refused_2 u = rw ((fine_is s v).0, u)

    module _ (u : every? utf8? (records s) ≡ true) where
      pub refused_3 : most_elements < n → 3 ≡ tree_refusal s
      unfolding tree_refusal
      refused_3 q = rw ((fine_is s v).0, u, (fine_is s v).1, lt-ltb _ _ q)

      module _ (q : n ≤ most_elements) where
        pub refused_4 : same (element_at s 0).name (bytes "Project") ≡ false → 4 ≡ tree_refusal s
        unfolding tree_refusal
        refused_4 p = let r = sym (project_is (records s)) ∙ p in rw ((fine_is s v).0, u, (fine_is s v).1, le-ltb _ _ q, r)

        module _ (p : same (element_at s 0).name (bytes "Project") ≡ true) where
          root_right : project? (records s) ≡ true
          root_right = sym (project_is (records s)) ∙ p

          pub refused_5 : some? too_long (below_root (records s)) ≡ true → 5 ≡ tree_refusal s
          unfolding tree_refusal
          refused_5 l = rw ((fine_is s v).0, u, (fine_is s v).1, le-ltb _ _ q, root_right, l)

          pub taken : some? too_long (below_root (records s)) ≡ false → 0 ≡ tree_refusal s
          unfolding tree_refusal
          taken l = rw ((fine_is s v).0, u, (fine_is s v).1, le-ltb _ _ q, root_right, l)

-- ---- names and texts of refusal 5

module _ (name text : Text) where
  pub as_number : {u : Text} {a : Result Float Unread} {r : Bool} → some? (same name) number_names ≡ true → u ≡ trim text → a ≡ number_of u → r ≡ long? a
      → r ≡ long_in name text
  unfolding long_in
  as_number h e m k = rw (k, h, ← e, ← m)

  pub as_duration : {a : Result Duration Unread} {r : Bool} → some? (same name) number_names ≡ false → some? (same name) duration_names ≡ true → a ≡ duration_of text
      → r ≡ long? a → r ≡ long_in name text
  unfolding long_in
  as_duration h i m k = rw (k, h, i, ← m)

  pub as_other : some? (same name) number_names ≡ false → some? (same name) duration_names ≡ false → false ≡ long_in name text
  unfolding long_in
  as_other h k = rw (h, k)
