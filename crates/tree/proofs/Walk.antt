-- Walking the records: the layout's verdict by what is left, and where an element with all below it ends. Assumes nothing.
use Rattle.std.specs.Prelude.{if◌then◌else◌}
use Rattle.std.specs.Prelude.{None, Option, Some}
use mathlib.Core.Path.{◌≡◌, refl, ap, sym}
use mathlib.Core.Logic.{◌⊎◌, inl, inr}
use mathlib.Core.List.{List, [], ◌∷◌, ◌++◌}
use Rattle.std.specs.Bool.{then_some}
use mathlib.Core.Bool.{Bool, true, false, ◌&&◌}
use Prim.Native.Nat.{ℕ, suc, ◌+◌, ◌≤◌, ◌<◌}
use native.Mathlib.Nat.{zero-add, add-zero}
use native.Mathlib.Omega.{arith}
use lib.ListN.{length}
use lib.Dec.{eqb}
use borrow.Author.Tests.{le-leb, lt-leb}
use Rattle.definition.specs.Text.{Text}
use Rattle.definition.specs.Tree.{Rec, head_bytes, right_at, right, size, layout}
use Rattle.tree.specs.declared.Head.{Head}
use Rattle.tree.specs.Place.{IsHead, record_by, verdict, records_at, under, after}
use Rattle.tree.proofs.Records.{le_or_lt, records_next}

-- a record and those after it end where those after it end
size_whole : (s : Text) (at : ℕ) {h : Head} → IsHead s at h → (rs : List Rec) → at + size (record_by h ∷ rs) ≡ h.next + size rs
unfolding size
size_whole s at g rs = omega (arith, g.ends)

-- ---- the layout

-- the verdict, after a record of depth p and n records, by the records that are left at a position
unfoldable pub verdict_from : ℕ → ℕ → ℕ → List Rec → ℕ → Option ℕ
verdict_from p n at rs len = if right p rs && eqb (at + size rs) len then Some (n + length rs) else None

pub verdict_all : (s : Text) → verdict s ≡ verdict_from 0 0 0 (records_at s 0) (length s)
unfolding verdict verdict_from layout
verdict_all s = simp zero-add

branch : (n : ℕ) (b : Bool) → (if b then Some n else None) ≡ then_some b n
branch n true = refl
branch n false = refl

module _ (p n : ℕ) (s : Text) (at : ℕ) where
  abbrev pub left : Option ℕ
  left = verdict_from p n at (records_at s at) (length s)

  pub left_whole : records_at s at ≡ [] → left ≡ then_some (eqb at (length s)) n
  unfolding verdict_from right size
  left_whole h = rw h (simp add-zero (branch n (eqb at (length s))))

  module _ {h : Head} (g : IsHead s at h) where
    pub left_wrong : right_at p h.depth (length h.text.now) ≡ false → left ≡ None
    unfolding verdict_from right
    left_wrong q = rw (g.here, q)

    pub left_step : right_at p h.depth (length h.text.now) ≡ true → left ≡ verdict_from h.depth (n + 1) h.next (records_at s h.next) (length s)
    unfolding verdict_from right
    left_step q =
        let m : n + suc (length (records_at s h.next)) ≡ n + 1 + length (records_at s h.next) = omega arith in
        rw (g.here, size_whole s at g) (simp (q, m))

-- ---- an element with all below it

under_after : (d : ℕ) (rs : List Rec) → rs ≡ under d rs ++ after d rs
unfolding under after
under_after d [] = refl
under_after d (r ∷ rs) = go (le_or_lt r.depth d) (under_after d rs)
  where
    go : (r.depth ≤ d) ⊎ (d < r.depth) → rs ≡ under d rs ++ after d rs → (r ∷ rs) ≡ under d (r ∷ rs) ++ after d (r ∷ rs)
    go (inl p) i = simp (le-leb _ _ p)
    go (inr p) i = simp (lt-leb _ _ p) (ap (λ (l : List Rec). r ∷ l) i)

-- past the first records stand the others
pub records_past : (l m : List Rec) (s : Text) (at : ℕ) → records_at s at ≡ l ++ m → records_at s (at + size l) ≡ m
unfolding size
records_past [] m s at h = rw add-zero h
records_past (r ∷ l) m s at h =
    let e : at + (head_bytes + length r.name + length r.text + size l) ≡ at + head_bytes + length r.name + length r.text + size l = omega arith in
    rw e (records_past l m s (at + head_bytes + length r.name + length r.text) (sym (records_next s at h)))

-- the first record that is not deeper than d, and those after it
pub records_after : (s : Text) (d at : ℕ) {p : ℕ} → p ≡ at + size (under d (records_at s at)) → records_at s p ≡ after d (records_at s at)
records_after s d at k = rw k (records_past (under d (records_at s at)) (after d (records_at s at)) s at (under_after d (records_at s at)))

pub after_shorter : (d : ℕ) (rs : List Rec) → length (after d rs) ≤ length rs
unfolding after
after_shorter d [] = omega arith
after_shorter d (r ∷ rs) = go (le_or_lt r.depth d) (after_shorter d rs)
  where
    go : (r.depth ≤ d) ⊎ (d < r.depth) → length (after d rs) ≤ length rs → length (after d (r ∷ rs)) ≤ length (r ∷ rs)
    go (inl p) i = simp (le-leb _ _ p) (omega arith)
    go (inr p) i = simp (lt-leb _ _ p) (omega arith)

-- the records deeper than d: those deeper than c, which is no less, and the others
under_split : (d c : ℕ) (rs : List Rec) → d ≤ c → size (under d rs) ≡ size (under c rs) + size (under d (after c rs))
unfolding under after size
under_split d c [] h = refl
under_split d c (r ∷ rs) h = go (le_or_lt r.depth c) (under_split d c rs h)
  where
    go : (r.depth ≤ c) ⊎ (c < r.depth) → size (under d rs) ≡ size (under c rs) + size (under d (after c rs))
        → size (under d (r ∷ rs)) ≡ size (under c (r ∷ rs)) + size (under d (after c (r ∷ rs)))
    go (inl p) i = simp (le-leb _ _ p, zero-add)
    go (inr p) i = let q : d < r.depth = omega arith in simp (lt-leb _ _ p, lt-leb _ _ q, i) (omega arith)

-- p stands where all records from `from` on are deeper than d
pub record Passed (s : Text) (from d p : ℕ) : Type 0 where
  pub same : p + size (under d (records_at s p)) ≡ from + size (under d (records_at s from))
  pub fewer : length (records_at s p) ≤ length (records_at s from)

module _ (s : Text) (from d p : ℕ) (g : Passed s from d p) where
  pub passed_cut : records_at s p ≡ [] → p ≡ from + size (under d (records_at s from))
  unfolding under size
  passed_cut h = let z : size (under d (records_at s p)) ≡ 0 = rw h in omega (arith, g.same)

  module _ {h : Head} (k : IsHead s p h) where
    pub passed_end : h.depth ≤ d → p ≡ from + size (under d (records_at s from))
    unfolding under size
    passed_end q = let z : size (under d (records_at s p)) ≡ 0 = rw k.here (simp (le-leb _ _ q)) in omega (arith, g.same)

    pub one_less : length (records_at s h.next) < length (records_at s p)
    one_less = rw k.here (omega arith)

    pub passed_next : d < h.depth → Passed s from d h.next
    unfolding under
    passed_next q =
        let z : p + size (under d (records_at s p)) ≡ h.next + size (under d (records_at s h.next)) = rw k.here (simp (lt-leb _ _ q) (size_whole s p k _)) in
        record { same = omega (arith, g.same); fewer = omega (arith, one_less, g.fewer) }

-- those of the level below are passed over too
pub passed_below : (s : Text) (from d p : ℕ) {q : ℕ} → Passed s from d p → q ≡ p + size (under (d + 1) (records_at s p)) → Passed s from d q
passed_below s from d p {q} g k =
    let r : records_at s q ≡ after (d + 1) (records_at s p) = records_after s (d + 1) p k in
    let z = under_split d (d + 1) (records_at s p) (omega arith) in
    record { same = rw r (omega (arith, g.same, z, k)); fewer = rw r (omega (arith, after_shorter (d + 1) (records_at s p), g.fewer)) }

pub below_shorter : (s : Text) (d p : ℕ) {q : ℕ} → q ≡ p + size (under d (records_at s p)) → length (records_at s q) ≤ length (records_at s p)
below_shorter s d p k = rw (records_after s d p k) (after_shorter d (records_at s p))
