-- Link elements counted: how many dangle and go across, as 32 bits hold it. Assumes nothing.
use Rattle.std.specs.Prelude.{if◌then◌else◌}
use Rattle.std.proofs.Common.{◌≡◌, ℕ, suc, ◌+◌, ◌%◌, ◌^◌, ◌<◌, Bool, true, false, List, [], ◌∷◌, ◌++◌, map, length, sym, refl, ap, ◌∙◌, zero-add, arith}
use mathlib.Core.List.{flat_map}
use Rattle.definition.specs.Base.{keep, numbered}
use Rattle.definition.specs.Ascii.{bytes}
use Rattle.definition.specs.Tree.{Element, all}
use Rattle.definition.specs.Task.{Context, context_of, kept_tasks}
use Rattle.definition.specs.Link.{Fate, is_dangling, is_across}
use Rattle.links.specs.Fates.{LinkFate, Finder, fate_to, fates_by, fate_for, Counted, counted_by, counted_in, counted_of}
use Rattle.links.specs.Entered.{fate_with, fate_is}
use Rattle.links.specs.More.{sum_none, sum_both}
use Rattle.links.specs.declared.Fates.{Fates}
use Rattle.links.specs.declared.fate.LeftOut.TheVariants.{Across, Dangling}
use Rattle.std.specs.Prelude.{Ok, Err}

-- ---- the loops: with what is left, the count is that of all

module _ (find : Finder) {t : Fates} (n : Fates) {ls : List Element} (h : t ≡ counted_in find n ls) where
  pub count_next : {l : Element} {k : List Element} {f : LinkFate} {n' : Fates} → ls ≡ l ∷ k → f ≡ fate_for find l → n' ≡ counted_by n f → t ≡ counted_in find n' k
  unfolding counted_in
  count_next {k = k} e i j = h ∙ ap (counted_in find n) e ∙ ap (λ (m : Fates). counted_in find m k) (ap (counted_by n) (sym i) ∙ sym j)

  pub count_end : ls ≡ [] → n ≡ t
  unfolding counted_in
  count_end e = sym (h ∙ ap (counted_in find n) e)

pub tasks_next : (find : Finder) {t : Fates} (n : Fates) {ts : List Element} → t ≡ counted_of find n ts → {u : Element} {k : List Element} {n' : Fates} → ts ≡ u ∷ k → n' ≡ counted_in find n (all u (bytes "PredecessorLink")) → t ≡ counted_of find n' k
unfolding counted_of
tasks_next find n h {k = k} e j = h ∙ ap (counted_of find n) e ∙ ap (λ (m : Fates). counted_of find m k) (sym j)

-- ---- what was counted

length_both : (p : Fate → Bool) (k l : List Fate) → length (keep p (k ++ l)) ≡ length (keep p k) + length (keep p l)
unfolding keep
length_both p [] l = sym (zero-add _)
length_both p (f ∷ k) l = by (p f) (length_both p k l)
  where
    by : (t : Bool) → length (keep p (k ++ l)) ≡ length (keep p k) + length (keep p l)
        → length (if t then f ∷ keep p (k ++ l) else keep p (k ++ l)) ≡ length (if t then f ∷ keep p k else keep p k) + length (keep p l)
    by true h = omega arith
    by false h = h

-- a count, and the fates that it counts
module _ (find : Finder) (x : Context) (get : Fates → ℕ) (is : Fate → Bool)
    (one : (n : Fates) (row : ℕ) (l : Element) (f : LinkFate) → get n < 2 ^ 32 → get (counted_by n f) ≡ (get n + length (keep is (fate_with x row l f ∷ []))) % 2 ^ 32) where
  count_in : (n : Fates) (row : ℕ) (ls : List Element) → get n < 2 ^ 32 → get (counted_in find n ls) ≡ (get n + length (keep is (map (fate_to find x row) ls))) % 2 ^ 32
  unfolding counted_in keep
  count_in n row [] h = sum_none (2 ^ 32) (get n) h
  count_in n row (l ∷ ls) h =
      let f = fate_for find l in
      let k = map (fate_to find x row) ls in
      let e : length (keep is (fate_with x row l f ∷ [])) + length (keep is k) ≡ length (keep is (fate_to find x row l ∷ k)) = sym (length_both is (fate_with x row l f ∷ []) k) ∙ ap (λ (f : Fate). length (keep is (f ∷ k))) (sym (fate_is find x row l)) in
      sum_both (2 ^ 32) (get n) (length (keep is (fate_with x row l f ∷ []))) (length (keep is k)) (get (counted_by n f)) (get (counted_in find (counted_by n f) ls)) h (one n row l f) (count_in (counted_by n f) row ls)
      ∙ ap (λ (m : ℕ). (get n + m) % 2 ^ 32) e

  count_of : (n : Fates) (row : ℕ) (ts : List Element) → get n < 2 ^ 32
      → get (counted_of find n ts) ≡ (get n + length (keep is (flat_map (λ (p : ℕ × Element). map (fate_to find x p.0) (all p.1 (bytes "PredecessorLink"))) (numbered row ts)))) % 2 ^ 32
  unfolding counted_of keep numbered flat_map
  count_of n row [] h = sum_none (2 ^ 32) (get n) h
  count_of n row (t ∷ ts) h =
      let m = counted_in find n (all t (bytes "PredecessorLink")) in
      let k : List Fate = map (fate_to find x row) (all t (bytes "PredecessorLink")) in
      let later : List Fate = flat_map (λ (p : ℕ × Element). map (fate_to find x p.0) (all p.1 (bytes "PredecessorLink"))) (numbered (suc row) ts) in
      sum_both (2 ^ 32) (get n) (length (keep is k)) (length (keep is later)) (get m) (get (counted_of find m ts)) h (count_in n row (all t (bytes "PredecessorLink"))) (count_of m (suc row) ts)
      ∙ ap (λ (i : ℕ). (get n + i) % 2 ^ 32) (sym (length_both is k later))

  counted_all : (n : Fates) → get n ≡ 0 → get (counted_of find n x.tasks) ≡ length (keep is (fates_by find x)) % 2 ^ 32
  unfolding fates_by
  counted_all n z = count_of n 0 x.tasks (omega (arith, z)) ∙ ap (λ (m : ℕ). (m + length (keep is (fates_by find x))) % 2 ^ 32) z ∙ ap (λ (m : ℕ). m % 2 ^ 32) (zero-add _)

one_dangling : (x : Context) (n : Fates) (row : ℕ) (l : Element) (f : LinkFate) → n.dangling < 2 ^ 32 → (counted_by n f).dangling ≡ (n.dangling + length (keep is_dangling (fate_with x row l f ∷ []))) % 2 ^ 32
unfolding keep fate_with
one_dangling x n row l (Err Across) h = sum_none (2 ^ 32) n.dangling h
one_dangling x n row l (Err Dangling) h = refl
one_dangling x n row l (Ok p) h = sum_none (2 ^ 32) n.dangling h

one_across : (x : Context) (n : Fates) (row : ℕ) (l : Element) (f : LinkFate) → n.across < 2 ^ 32 → (counted_by n f).across ≡ (n.across + length (keep is_across (fate_with x row l f ∷ []))) % 2 ^ 32
unfolding keep fate_with
one_across x n row l (Err Across) h = refl
one_across x n row l (Err Dangling) h = sum_none (2 ^ 32) n.across h
one_across x n row l (Ok p) h = sum_none (2 ^ 32) n.across h

pub tasks_end : (find : Finder) (root : Element) {o n : Fates} {ts : List Element} → (o.dangling ≡ 0) × (o.across ≡ 0) → counted_of find o (kept_tasks root) ≡ counted_of find n ts → ts ≡ [] → Counted (fates_by find (context_of root)) n
unfolding counted_of context_of
tasks_end find root {o} {n} z h e =
    let x = context_of root in
    let i : counted_of find o (kept_tasks root) ≡ n = h ∙ ap (counted_of find n) e in
    record {
      dangling_is = ap (λ (m : Fates). m.dangling) (sym i) ∙ counted_all find x (λ m. m.dangling) is_dangling (one_dangling x) o z.0;
      across_is = ap (λ (m : Fates). m.across) (sym i) ∙ counted_all find x (λ m. m.across) is_across (one_across x) o z.1;
    }
