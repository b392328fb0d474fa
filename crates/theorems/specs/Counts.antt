-- How many elements stand below an element: those of two and of four levels down are no more, and those below the root no more than the records.
-- Assumes nothing.
use Rattle.std.specs.Prelude.{if◌then◌else◌, ◌≡◌, Bool, not, take}
use Rattle.std.proofs.Math.Path.{refl, ap}
use Rattle.std.proofs.Common.{◌∙◌}
use Rattle.std.proofs.Math.Bool.{true, false}
use mathlib.Core.List.{List, [], ◌∷◌, map, flat_map}
use Rattle.std.specs.Prelude.{Option}
use Prim.Native.Nat.{ℕ, zero, suc, ◌+◌, ◌≤◌, ◌<◌}
use native.Mathlib.Omega.{arith}
use Rattle.std.proofs.Math.Decide.{dec_lt}
use Rattle.std.proofs.Math.Numerals.{add-one}
use borrow.Author.Tests.{lt-ltb, le-ltb, eq-eqb, ne_eqb}
use Rattle.std.proofs.Math.ListN.{length, length-append}
use Rattle.std.proofs.lemmas.List.{length-map}
use Rattle.definition.specs.Base.{given, keep, numbered, same}
use Rattle.definition.specs.Ascii.{bytes}
use Rattle.definition.specs.Text.{Text}
use Rattle.definition.specs.Tree.{Rec, Forest, nothing, one, Element, elements, level, element, all, child, all_in}
use Rattle.definition.specs.Calendar.{recurring, calendar_elements, skipped}
use Rattle.definition.specs.Recurrence.{recurrence_days}
use Rattle.definition.specs.Task.{Context, most_tasks, is_kept, kept_tasks}
use Rattle.definition.specs.Link.{Fate, fate_of, fates}
use Rattle.laws.specs.Each.{Each, empty, next}
use Rattle.laws.specs.FitLists.{Perhaps, missing, there, each_first}
use Rattle.laws.specs.FitTrees.{keep_most}

-- ---- sums

abbrev pub total : {A : Type 0} → (A → ℕ) → List A → ℕ
total w [] = 0
total w (x ∷ l) = w x + total w l

module _ {A : Type 0} (w : A → ℕ) where
  keep_total : (p : A → Bool) (l : List A) → total w (keep p l) + length (keep p l) ≤ total w l + length l
  unfolding keep
  keep_total p [] = omega arith
  keep_total p (x ∷ l) = by (p x) (keep_total p l)
    where
      by : (t : Bool) → total w (keep p l) + length (keep p l) ≤ total w l + length l
          → total w (if t then x ∷ keep p l else keep p l) + length (if t then x ∷ keep p l else keep p l) ≤ w x + total w l + suc (length l)
      by true h = omega arith
      by false h = omega arith

  keep_less : (p : A → Bool) (l : List A) → total w (keep p l) ≤ total w l
  unfolding keep
  keep_less p [] = omega arith
  keep_less p (x ∷ l) = by (p x) (keep_less p l)
    where
      by : (t : Bool) → total w (keep p l) ≤ total w l → total w (if t then x ∷ keep p l else keep p l) ≤ w x + total w l
      by true h = omega arith
      by false h = omega arith

  take_less : (n : ℕ) (l : List A) → total w (take n l) ≤ total w l
  take_less zero l = omega arith
  take_less (suc n) [] = omega arith
  take_less (suc n) (x ∷ l) = omega (arith, take_less n l)

  each_total : (k : ℕ) (l : List A) → total w l ≤ k → Each (λ x. w x ≤ k) l
  each_total k [] h = empty
  each_total k (x ∷ l) h = next {x = x} (omega arith) (each_total k l (omega arith))

  flat_most : {B : Type 0} (f : A → List B) → ((x : A) → length (f x) ≤ w x) → (l : List A) → length (flat_map f l) ≤ total w l
  unfolding flat_map
  flat_most f h [] = omega arith
  flat_most f h (x ∷ l) = omega (arith, length-append (f x) (flat_map f l), h x, flat_most f h l)

  numbered_total : (n : ℕ) (l : List A) → total (λ (x : ℕ × A). w x.1) (numbered n l) ≡ total w l
  unfolding numbered
  numbered_total n [] = refl
  numbered_total n (x ∷ l) = ap (λ (k : ℕ). w x + k) (numbered_total (suc n) l)

-- ---- all that stands below

abbrev pub size : Forest → ℕ
size nothing = 0
size (one n t c r) = suc (size c + size r)

abbrev pub below : Element → ℕ
below e = size e.below

elements_total : (f : Forest) → total below (elements f) + length (elements f) ≤ size f
unfolding elements
elements_total nothing = omega arith
elements_total (one n t c r) = omega (arith, elements_total r)

all_total : (e : Element) (n : Text) → total below (all e n) + length (all e n) ≤ below e
unfolding all
all_total e n = omega (arith, keep_total below (λ (c : Element). same c.name n) (elements e.below), elements_total e.below)

child_below : (e : Element) (n : Text) → Perhaps (λ c. below c ≤ below e) (child e n)
unfolding child
child_below e n = each_first (each_total below (below e) (all e n) (omega (arith, all_total e n)))

pub in_total : (e : Element) (n m : Text) → total below (all_in (child e n) m) + length (all_in (child e n) m) ≤ below e
in_total e n m = by (child_below e n)
  where
    by : {o : Option Element} → Perhaps (λ c. below c ≤ below e) o → total below (all_in o m) + length (all_in o m) ≤ below e
    by missing = omega arith
    by (there {a = c} h) = omega (arith, all_total c m)

-- ---- below the root

-- of k levels from one on
abbrev sizes : ℕ → ℕ → List Rec → ℕ
sizes zero d rs = 0
sizes (suc k) d rs = size (level d rs) + sizes k (suc d) rs

module _ (r : Rec) (rs : List Rec) where
  level_low : (d : ℕ) → r.depth < d → size (level d (r ∷ rs)) ≡ 0
  unfolding level
  level_low d h = rw (lt-ltb r.depth d h)

  level_at_lem : (d : ℕ) → r.depth ≡ d → size (level d (r ∷ rs)) ≡ suc (size (level (suc d) rs) + size (level d rs))
  unfolding level
  level_at_lem d h = rw (le-ltb r.depth d (omega arith), eq-eqb r.depth d h, add-one d)

  level_high : (d : ℕ) → d < r.depth → size (level d (r ∷ rs)) ≡ size (level d rs)
  unfolding level
  level_high d h = rw (le-ltb r.depth d (omega arith), ne_eqb r.depth d (λ e. omega arith))

  sizes_low : (k d : ℕ) → r.depth < d → sizes k d (r ∷ rs) ≡ 0
  sizes_low zero d h = refl
  sizes_low (suc k) d h = omega (arith, level_low d h, sizes_low k (suc d) (omega arith))

  sizes_more : (k d : ℕ) → sizes k d (r ∷ rs) ≤ suc (sizes (suc k) d rs)
  sizes_more zero d = omega arith
  sizes_more (suc k) d = by (dec_lt r.depth d) (dec_lt d r.depth) (sizes_more k (suc d))
    where
      by : Dec (r.depth < d) → Dec (d < r.depth) → sizes k (suc d) (r ∷ rs) ≤ suc (sizes (suc k) (suc d) rs)
          → size (level d (r ∷ rs)) + sizes k (suc d) (r ∷ rs) ≤ suc (size (level d rs) + (size (level (suc d) rs) + sizes k (suc (suc d)) rs))
      by (yes l) b h = omega (arith, level_low d l, sizes_low k (suc d) (omega arith))
      by (no f) (yes g) h = omega (arith, level_high d g)
      by (no f) (no g) h = omega (arith, level_at_lem d (omega arith), sizes_low k (suc d) (omega arith))

sizes_none : (k d : ℕ) → sizes k d [] ≤ 0
unfolding level
sizes_none zero d = omega arith
sizes_none (suc k) d = omega (arith, sizes_none k (suc d))

sizes_most : (k d : ℕ) (rs : List Rec) → sizes k d rs ≤ length rs
sizes_most k d [] = sizes_none k d
sizes_most k d (r ∷ rs) = omega (arith, sizes_more r rs k d, sizes_most (suc k) d rs)

pub root_most : (rs : List Rec) → below (element rs) ≤ length rs
unfolding element
root_most [] = omega arith
root_most (r ∷ rs) = omega (arith, sizes_most 1 (r.depth + 1) rs)

-- ---- exceptions and links

pub skipped_most : (root : Element) → skipped root ≤ below root
unfolding skipped
skipped_most root =
    let cs = calendar_elements root in
    let xs = flat_map recurring cs in
    let n : length xs ≤ total below cs = flat_most below recurring (λ c. exceptions c) cs in
    omega (arith, keep_most (λ x. not (given (recurrence_days x))) xs, in_total root (bytes "Calendars") (bytes "Calendar"))
  where
    exceptions : (c : Element) → length (recurring c) ≤ below c
    exceptions c = omega (arith, in_total c (bytes "Exceptions") (bytes "Exception"))

tasks_total : (root : Element) → total below (kept_tasks root) ≤ below root
unfolding kept_tasks
tasks_total root = go (all_in (child root (bytes "Tasks")) (bytes "Task")) most_tasks (in_total root (bytes "Tasks") (bytes "Task"))
  where
    go : (es : List Element) (n : ℕ) → total below es + length es ≤ below root → total below (keep is_kept (take n es)) ≤ below root
    go es n h = omega (arith, keep_less below is_kept (take n es), take_less below n es)

pub fates_most : (x : Context) (root : Element) → x.tasks ≡ kept_tasks root → length (fates x) ≤ below root
unfolding fates
fates_most x root e =
    let links : ℕ × Element → List Fate = λ p. map (fate_of x p.0) (all p.1 (bytes "PredecessorLink")) in
    let n = flat_most (λ (p : ℕ × Element). below p.1) links link (numbered 0 x.tasks) in
    let m : total (λ (p : ℕ × Element). below p.1) (numbered 0 x.tasks) ≡ total below (kept_tasks root) =
    numbered_total below 0 x.tasks ∙ ap (total below) e in
    omega (arith, tasks_total root)
  where
    link : (p : ℕ × Element) → length (map (fate_of x p.0) (all p.1 (bytes "PredecessorLink"))) ≤ below p.1
    link p =
        let l = all p.1 (bytes "PredecessorLink") in
        omega (arith, length-map l (fate_of x p.0), all_total p.1 (bytes "PredecessorLink"))
