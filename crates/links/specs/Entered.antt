-- A kept link enters a task where the task has a link element that is kept; by the rows of the kept tasks these are the definition's links. Assumes
-- nothing.
use Rattle.std.specs.Prelude.{if◌then◌else◌, ◌≡◌, ℕ, suc, ◌+◌, ◌<◌, Bool, true, false, ◌||◌, List, [], ◌∷◌, ◌++◌, map, length, ◌==◌, ◌≢◌}
use native.Mathlib.Omega.{arith}
use Rattle.std.proofs.Math.Path.{refl, sym, ap}
use Rattle.std.proofs.Common.{◌∙◌, eq-eqb, ne_eqb}
use Rattle.std.proofs.Math.Bool.{or-false}
use mathlib.Core.List.{flat_map}
use Rattle.std.specs.Prelude.{Option, Some, None}
use Rattle.definition.specs.Base.{◌>>=◌, numbered, some?}
use Rattle.definition.specs.Ascii.{bytes}
use Rattle.definition.specs.Field.{text_in, yes_in}
use Rattle.definition.specs.Model.{Link}
use Rattle.definition.specs.Text.{Text}
use Rattle.definition.specs.Tree.{Element, all}
use Rattle.definition.specs.Task.{Context, row_of}
use Rattle.definition.specs.Link.{Fate, link_of, fate_by, fate_of, fates, kept_of, links, entered}
use Rattle.laws.specs.Tests.{some_both}
use Rattle.links.specs.Fates.{LinkFate, Finder, fate_to, fates_by, links_by, fate_for, is_kept_link, is_entered, links_for, links_in, links_from}
use Rattle.links.specs.declared.fate.LeftOut.TheVariants.{Across, Dangling}
use Rattle.std.specs.Prelude.{Ok, Err}
use Rattle.std.specs.Option.{ok_or}
use Rattle.std.specs.Result.{is_ok}

-- ---- where the finder gives the rows of the kept tasks

module _ (x : Context) {find : Finder} (h : (u : Text) → find u ≡ row_of x.tasks u) where
  pub fates_found : fates_by find x ≡ fates x
  unfolding fates_by fate_to fates fate_of
  fates_found = ap (λ (f : Finder). fates_by f x) (λ i u. h u i)

  pub links_found : links_by find x ≡ links x
  unfolding links_by links
  links_found = ap kept_of fates_found

-- ---- a fate is that of the code

-- with its link
unfoldable pub fate_with : Context → ℕ → Element → LinkFate → Fate
fate_with x row l (Err Across) = Fate.across
fate_with x row l (Err Dangling) = Fate.dangling
fate_with x row l (Ok p) = Fate.kept (link_of x p row l)

pub fate_is : (find : Finder) (x : Context) (row : ℕ) (l : Element) → fate_to find x row l ≡ fate_with x row l (fate_for find l)
unfolding fate_to fate_for fate_with
fate_is find x row l = by (yes_in l "CrossProject") (text_in l "PredecessorUID" >>= find)
  where
    by : (t : Bool) (o : Option ℕ) → (if t then Fate.across else fate_by x row l o) ≡ fate_with x row l (if t then Err Across else ok_or o Dangling)
    by true o = refl
    by false None = refl
    by false (Some p) = refl

pub kept_is : (find : Finder) (l : Element) → is_kept_link find l ≡ is_ok (fate_for find l)
unfolding is_kept_link fate_for
kept_is find l = by (yes_in l "CrossProject") (text_in l "PredecessorUID" >>= find) refl refl
  where
    by : (t : Bool) (o : Option ℕ) → yes_in l "CrossProject" ≡ t → (text_in l "PredecessorUID" >>= find) ≡ o → is_kept_link find l ≡ is_ok (fate_for find l)
    by true o e f = rw e
    by false None e f = rw (e, f)
    by false (Some p) e f = rw (e, f)

-- ---- the kept links, task by task

kept_both : (k l : List Fate) → kept_of (k ++ l) ≡ kept_of k ++ kept_of l
unfolding kept_of
kept_both [] l = refl
kept_both (Fate.across ∷ k) l = kept_both k l
kept_both (Fate.dangling ∷ k) l = kept_both k l
kept_both (Fate.kept x ∷ k) l = ap (λ (k : List Link). x ∷ k) (kept_both k l)

module _ (find : Finder) (x : Context) where
  links_by_lem : (row : ℕ) (l : Element) (f : LinkFate) (k : List Fate) → kept_of (fate_with x row l f ∷ k) ≡ links_for x.per_day row l f ++ kept_of k
  unfolding fate_with links_for kept_of link_of
  links_by_lem row l (Err Across) k = refl
  links_by_lem row l (Err Dangling) k = refl
  links_by_lem row l (Ok p) k = refl

  links_in_lem : (row : ℕ) (ls : List Element) → kept_of (map (fate_to find x row) ls) ≡ links_in x.per_day find row ls
  unfolding links_in kept_of
  links_in_lem row [] = refl
  links_in_lem row (l ∷ ls) =
      let k = map (fate_to find x row) ls in
      ap (λ (f : Fate). kept_of (f ∷ k)) (fate_is find x row l)
      ∙ links_by_lem row l (fate_for find l) k
      ∙ ap (λ (k : List Link). links_for x.per_day row l (fate_for find l) ++ k) (links_in_lem row ls)

  links_from_lem : (n : ℕ) (ts : List Element)
      → kept_of (flat_map (λ (p : ℕ × Element). map (fate_to find x p.0) (all p.1 (bytes "PredecessorLink"))) (numbered n ts)) ≡ links_from x.per_day find n ts
  unfolding numbered links_from kept_of flat_map
  links_from_lem n [] = refl
  links_from_lem n (t ∷ ts) =
      let z : suc n ≡ n + 1 = omega arith in
      let later : List Fate = flat_map (λ (p : ℕ × Element). map (fate_to find x p.0) (all p.1 (bytes "PredecessorLink"))) (numbered (suc n) ts) in
      kept_both (map (fate_to find x n) (all t (bytes "PredecessorLink"))) later
      ∙ ap (λ (k : List Link). k ++ kept_of later) (links_in_lem n (all t (bytes "PredecessorLink")))
      ∙ ap (λ (k : List Link). links_in x.per_day find n (all t (bytes "PredecessorLink")) ++ k) (links_from_lem (suc n) ts)
      ∙ ap (λ (m : ℕ). links_in x.per_day find n (all t (bytes "PredecessorLink")) ++ links_from x.per_day find m ts) z

  pub links_are : links_by find x ≡ links_from x.per_day find 0 x.tasks
  unfolding links_by fates_by
  links_are = links_from_lem 0 x.tasks

-- ---- a kept link enters a row

abbrev to : ℕ → Link → Bool
to i l = l.successor == i

module _ (per_day : ℕ) (find : Finder) where
  by_own : (row : ℕ) (l : Element) (f : LinkFate) → some? (to row) (links_for per_day row l f) ≡ is_ok f
  unfolding some? links_for link_of
  by_own row l (Err why) = refl
  by_own row l (Ok p) = rw (eq-eqb row row refl)

  by_other : (i row : ℕ) → (row ≢ i) → (l : Element) (f : LinkFate) → some? (to i) (links_for per_day row l f) ≡ false
  unfolding some? links_for link_of
  by_other i row h l (Err why) = refl
  by_other i row h l (Ok p) = rw (ne_eqb row i h)

  in_own : (row : ℕ) (ls : List Element) → some? (to row) (links_in per_day find row ls) ≡ some? (is_kept_link find) ls
  unfolding some? links_in
  in_own row [] = refl
  in_own row (l ∷ ls) =
      some_both (to row) (links_for per_day row l (fate_for find l)) (links_in per_day find row ls)
      ∙ ap (λ (t : Bool). t || some? (to row) (links_in per_day find row ls)) (by_own row l (fate_for find l) ∙ sym (kept_is find l))
      ∙ ap (λ (t : Bool). is_kept_link find l || t) (in_own row ls)

  in_other : (i row : ℕ) → (row ≢ i) → (ls : List Element) → some? (to i) (links_in per_day find row ls) ≡ false
  unfolding some? links_in
  in_other i row h [] = refl
  in_other i row h (l ∷ ls) =
      some_both (to i) (links_for per_day row l (fate_for find l)) (links_in per_day find row ls)
      ∙ rw (by_other i row h l (fate_for find l), in_other i row h ls)

  from_later : (i n : ℕ) → i < n → (ts : List Element) → some? (to i) (links_from per_day find n ts) ≡ false
  unfolding some? links_from
  from_later i n h [] = refl
  from_later i n h (t ∷ ts) =
      some_both (to i) (links_in per_day find n (all t (bytes "PredecessorLink"))) (links_from per_day find (n + 1) ts)
      ∙ rw (in_other i n (λ e. omega arith) (all t (bytes "PredecessorLink")), from_later i (n + 1) (omega arith) ts)

  from_own : (n i : ℕ) (ts : List Element) (t : Element) (us : List Element) → i ≡ n + length ts → some? (to i) (links_from per_day find n (ts ++ (t ∷ us))) ≡ is_entered find t
  unfolding links_from is_entered
  from_own n i [] t us e =
      let z : n ≡ i = omega arith in
      some_both (to i) (links_in per_day find n (all t (bytes "PredecessorLink"))) (links_from per_day find (n + 1) us)
      ∙ rw (from_later i (n + 1) (omega arith) us, z, in_own i (all t (bytes "PredecessorLink"))) (or-false _)
  from_own n i (u ∷ ts) t us e =
      some_both (to i) (links_in per_day find n (all u (bytes "PredecessorLink"))) (links_from per_day find (n + 1) (ts ++ (t ∷ us)))
      ∙ rw (in_other i n (λ z. omega arith) (all u (bytes "PredecessorLink"))) (from_own (n + 1) i ts t us (omega arith))

-- the task that so many stand before
pub entered_is : (find : Finder) (x : Context) (ts : List Element) (t : Element) (us : List Element) → x.tasks ≡ ts ++ (t ∷ us) → entered (links_by find x) (length ts) ≡ is_entered find t
entered_is find x ts t us e =
    let i = length ts in
    ap (some? (to i)) (links_are find x)
    ∙ ap (λ (l : List Element). some? (to i) (links_from x.per_day find 0 l)) e
    ∙ from_own x.per_day find 0 i ts t us (omega arith)
