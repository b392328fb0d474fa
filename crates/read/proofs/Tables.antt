-- The tables in the words: that of the kept tasks stays where words behind it are used, and what is written by tables is the definition's. Assumes
-- nothing.
use Prim.Native.Nat.{ℕ, min, max, ◌-◌, ◌≤◌, ◌<◌}
use Rattle.std.specs.Prelude.{None, Some}
use native.Mathlib.Omega.{arith}
use mathlib.Core.Path.{◌≡◌, ap, ◌∙◌, subst}
use mathlib.Core.Bool.{Bool}
use mathlib.Core.List.{List}
use Rattle.std.specs.Prelude.{Option}
use lib.ListN.{length, take, replicate, length-append, length-replicate, get_or-append}
use lib.Seq.{length-take-le, get_or-take}
use Rattle.definition.specs.Format.{Format, whole}
use Rattle.definition.specs.Model.{Activity, Link, Expense}
use Rattle.definition.specs.Pack.{assignment, expense}
use Rattle.definition.specs.Text.{Text}
use Rattle.definition.specs.Tree.{Element}
use Rattle.definition.specs.Task.{Context, context_of, activities}
use Rattle.definition.specs.Link.{Fate, fates, links, entered}
use Rattle.definition.specs.Resource.{assignments, expenses}
use Rattle.index.specs.declared.Table.{Table}
use Rattle.index.specs.Chains.{end_of, end_in}
use Rattle.index.specs.Frame.{SameIn}
use Rattle.tree.specs.Root.{root_at}
use Rattle.tree.specs.declared.root.Root.{Root}
use Rattle.bits.specs.Clear.{cleared}
use Rattle.bits.specs.declared.Place.{Place}
use Rattle.pack.specs.Writes.{Writes, WritesIf}
use Rattle.pack.specs.declared.record.Records.{Records}
use Rattle.rows.specs.Tables.{TabledIn, Makes}
use Rattle.rows.specs.Tabled.{tabled_finds, tabled_cost, tasks_32, SameFor, row_same, makes_behind}
use Rattle.rows.specs.declared.table.Listed.{Listed}
use Rattle.links.specs.Fates.{task_in, fates_by, links_by, Counted}
use Rattle.links.specs.declared.Fates.{Fates}
use Rattle.links.specs.Entered.{fates_found, links_found}
use Rattle.assignments.specs.Section.{WritesIn}
use Rattle.assignments.specs.Finders.{Finders, finders_in, assignments_by, expenses_by, Finds, assignments_found, expenses_found}
use Rattle.read.specs.Tables.{Tasked}

-- ---- a table that was made

module _ {s : Text} {root : Element} {l : Listed} {at : ℕ} {w w' : List ℕ} {m : Option Table} (h : Makes s root l at w w' m) where
  made_long : length w' ≡ length w
  made_long = go m h.words
    where
      go : (m : Option Table) → TabledIn s root l m w w' → length w' ≡ length w
      go None x = ap length x
      go (Some t) x = x.length_same

  made_ends : end_in m ≤ length w'
  made_ends = go m h.words
    where
      go : (m : Option Table) → TabledIn s root l m w w' → end_in m ≤ length w'
      go None x = omega arith
      go (Some t) x = x.indexed.fits.room

pub tasks_made : {root : Root} {at : ℕ} {w w' : List ℕ} {m : Option Table} → Makes root.tree.now (root_at root) Listed.Tasks at w w' m → Tasked root w' m
tasks_made h = record { finds = λ u. tabled_finds u h ∙ tasks_32 _ u; ends = made_ends h }

-- ---- the table of the kept tasks stays

-- where the words behind it are cleared
cleared_long : (n : ℕ) (w : List ℕ) → n ≤ length w → length (cleared n w) ≡ length w
cleared_long n w h =
    length-append (take n w) (replicate (length w - n) 0) ∙ omega (arith, length-take-le n w h, length-replicate {A = ℕ} (length w - n) 0)

cleared_leaves : (m : Option Table) {n : ℕ} (w : List ℕ) → end_in m ≤ n → n ≤ length w → SameFor m w (cleared n w)
cleared_leaves m {n} w h k = record { same = λ t e. go t (rw e at h) }
  where
    go : (t : Table) → end_of t ≤ n → SameIn t w (cleared n w)
    go t b = record {
      long = cleared_long n w k;
      words = λ j _ c.
          let i : j < n = omega arith in
          get_or-append (take n w) (replicate (length w - n) 0) 0 j (omega (arith, length-take-le n w k)) ∙ get_or-take n w j 0 i;
    }

tasked_same : {root : Root} {tasks : Option Table} {w w' : List ℕ} → Tasked root w tasks → SameFor tasks w w' → length w' ≡ length w → Tasked root w' tasks
tasked_same {root} x y e = record {
  finds = λ u. ap (λ (f : Text → Option ℕ). f u) (row_same root.tree.now (root_at root) Listed.Tasks y) ∙ x.finds u;
  ends = omega (arith, x.ends);
}

module _ {root : Root} {w : List ℕ} {tasks : Option Table} (x : Tasked root w tasks) where
  tasked_cleared : {n : ℕ} {w' : List ℕ} → end_in tasks ≤ n → n ≤ length w → w' ≡ cleared n w → Tasked root w' tasks
  tasked_cleared {n} h k e = rw e (tasked_same x (cleared_leaves tasks w h k) (cleared_long n w k))

  -- from where it ends on
  pub tasked_behind : {w' : List ℕ} → w' ≡ cleared (end_in tasks) w → Tasked root w' tasks
  tasked_behind e = tasked_cleared (omega arith) x.ends e

  pub tasked_from : {n : ℕ} {w' : List ℕ} → n ≡ min (end_in tasks) (length w) → w' ≡ cleared n w → Tasked root w' tasks
  tasked_from {n} h e = tasked_cleared {n = n} (omega (arith, x.ends)) (omega arith) e

  -- ---- fates and links by it

  pub fates_counted : {r : Fates} → Counted (fates_by (task_in root w tasks) (context_of (root_at root))) r → Counted (fates (context_of (root_at root))) r
  unfolding context_of
  fates_counted {r} = subst (λ (l : List Fate). Counted l r) (fates_found (context_of (root_at root)) x.finds)

  links_are : links_by (task_in root w tasks) (context_of (root_at root)) ≡ links (context_of (root_at root))
  unfolding context_of
  links_are = links_found (context_of (root_at root)) x.finds

  module _ {d : List ℕ} {p : Place} {d' : List ℕ} {r : Records} where
    pub links_written : {f : Format Link} → Writes f (links_by (task_in root w tasks) (context_of (root_at root))) d p d' r → Writes f (links (context_of (root_at root))) d p d' r
    links_written {f} = subst (λ (l : List Link). Writes f l d p d' r) links_are

    pub activities_written : (y : Context) {test : Bool} {f : Format Activity}
        → WritesIf test f (activities y (entered (links_by (task_in root w tasks) (context_of (root_at root))))) d p d' r
        → WritesIf test f (activities y (entered (links (context_of (root_at root))))) d p d' r
    activities_written y {test} {f} = subst (λ (l : List Link). WritesIf test f (activities y (entered l)) d p d' r) links_are

  -- ---- the tables of resources behind it

  pub resources_made : {at behind : ℕ} {w1 w2 : List ℕ} {work cost : Option Table} → at ≡ min (end_in tasks) (length w) → Makes root.tree.now (root_at root) Listed.Work at w w1 work
      → behind ≡ max at (min (end_in work) (length w1)) → Makes root.tree.now (root_at root) Listed.Cost behind w1 w2 cost
      → Finds (root_at root) (finders_in root.tree.now (root_at root) w2 tasks work cost)
  resources_made {at} {behind} {work = work} a h b k =
      let ends : end_in tasks ≤ at = omega (arith, x.ends) in
      let later : end_in tasks ≤ behind = omega arith in
      let ends_work : end_in work ≤ behind = omega (arith, made_ends h) in
      let y = tasked_same x (makes_behind h tasks ends) (made_long h) in
      let z = tasked_same y (makes_behind k tasks later) (made_long k) in
      record {
        task = z.finds;
        work = λ u. ap (λ (f : Text → Option ℕ). f u) (row_same root.tree.now (root_at root) Listed.Work (makes_behind k work ends_work)) ∙ tabled_finds u h;
        cost = λ u. tabled_cost u k;
      }

-- by the tables of a root
module _ {root r : Root} {find : Finders} (e : r ≡ root) (h : Finds (root_at root) find) {d : List ℕ} {p : Place} {d' : List ℕ} {n : Records} where
  pub assignments_written : Writes (whole assignment) (assignments_by find (root_at r)) d p d' n → Writes (whole assignment) (assignments (context_of (root_at root)) (root_at root)) d p d' n
  assignments_written w = assignments_found h (subst (λ (r : Root). Writes (whole assignment) (assignments_by find (root_at r)) d p d' n) e w)

  pub expenses_written : WritesIn (whole expense) (expenses_by find (root_at r)) d p d' n → WritesIn (whole expense) (expenses (context_of (root_at root)) (root_at root)) d p d' n
  expenses_written w = subst (λ (l : List Expense). WritesIn (whole expense) l d p d' n) (expenses_found h) (subst (λ (r : Root). WritesIn (whole expense) (expenses_by find (root_at r)) d p d' n) e w)
