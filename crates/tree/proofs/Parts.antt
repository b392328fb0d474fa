-- The walk over a project's children: what is noted so far, and what is left. Assumes nothing.
use Rattle.std.specs.Prelude.{if◌then◌else◌}
use Prim.Native.Nat.{ℕ}
use native.Mathlib.Omega.{arith}
use mathlib.Core.Path.{◌≡◌, refl, sym, ap, ◌∙◌, subst}
use mathlib.Core.Bool.{Bool, true, false}
use mathlib.Core.List.{List, []}
use Rattle.std.specs.Prelude.{Some}
use denote.Ref.{Bor}
use lib.Dec.{ltb}
use lib.ListN.{length}
use borrow.Author.Tests.{le-ltb, lt-ltb}
use Rattle.definition.specs.Base.{first, keep, same}
use Rattle.definition.specs.Text.{Text}
use Rattle.definition.specs.Tree.{Element, elements, all, child}
use Rattle.tree.specs.Place.{element_at, meaning}
use Rattle.tree.specs.Root.{note_at, Notes, Parts, Stands}
use Rattle.tree.specs.declared.root.Root.{Root}
use Rattle.tree.specs.Walks.{siblings_left, GivesSibling}
use Rattle.tree.specs.declared.Siblings.{Siblings}
use Rattle.tree.specs.declared.element.Element.{Element as Place}
use Rattle.tree.proofs.Rows.{having}

-- ---- each part

module _ (P Q : Text → ℕ → Type 0) where
  parts_all : {r : Root} → ((n : Text) (x : ℕ) → P n x → Q n x) → Parts P r → Parts Q r
  parts_all f h = record {
    calendars = f _ _ h.calendars;
    tasks = f _ _ h.tasks;
    resources = f _ _ h.resources;
    assignments = f _ _ h.assignments;
    calendar = f _ _ h.calendar;
    minutes = f _ _ h.minutes;
    title = f _ _ h.title;
    name = f _ _ h.name;
    start = f _ _ h.start;
    currency = f _ _ h.currency;
    status = f _ _ h.status;
  }

  parts_noted : {s : Text} {at : ℕ} {was r : Root} → Notes s at was r → ((n : Text) (x : ℕ) → P n x → Q n (note_at s at n x)) → Parts P was → Parts Q r
  parts_noted {s} {at} k f h = record {
    calendars = by k.calendars h.calendars;
    tasks = by k.tasks h.tasks;
    resources = by k.resources h.resources;
    assignments = by k.assignments h.assignments;
    calendar = by k.calendar h.calendar;
    minutes = by k.minutes h.minutes;
    title = by k.title h.title;
    name = by k.name h.name;
    start = by k.start h.start;
    currency = by k.currency h.currency;
    status = by k.status h.status;
  }
    where
      by : {n : Text} {x y : ℕ} → y ≡ note_at s at n x → P n x → Q n y
      by {n} {x} e p = subst (Q n) (sym e) (f n x p)

-- ---- the children that are walked over

-- the first child of a name was noted at x, or is among the children that are left
abbrev Left : Place → List Element → Text → ℕ → Type 0
Left e k n x = child (meaning e) n ≡ (if ltb x (length e.tree.now) then Some (element_at e.tree.now x) else first (having n k))

module _ (e : Place) where
  left_all : {k : List Element} → k ≡ elements (meaning e).below → (n : Text) (x : ℕ) → x ≡ length e.tree.now → Left e k n x
  unfolding child all
  left_all q n x i = rw (i, le-ltb (length e.tree.now) (length e.tree.now) (omega arith), q)

  left_end : {k : List Element} → k ≡ [] → (n : Text) (x : ℕ) → Left e k n x → Stands e.tree.now x (child (meaning e) n)
  unfolding first keep
  left_end q n x h = record { is = h ∙ rw q }

  module _ {s t : Siblings} {c : Place} {m : Bor Text} (g : GivesSibling s c m t) (q : s.tree.now ≡ e.tree.now) where
    left_noted : (n : Text) (x : ℕ) → Left e (siblings_left s) n x → Left e (siblings_left t) n (note_at c.tree.now c.at n x)
    unfolding first keep
    left_noted n x h = go (ltb x (length e.tree.now)) (same (meaning c).name n) refl refl
      where
        tree : c.tree.now ≡ e.tree.now
        tree = g.on.tree ∙ q

        here : ltb c.at (length e.tree.now) ≡ true
        here = lt-ltb _ _ (omega (arith, g.on.inside, ap length q))

        go : (i j : Bool) → ltb x (length e.tree.now) ≡ i → same (meaning c).name n ≡ j → Left e (siblings_left t) n (note_at c.tree.now c.at n x)
        go true j y z = rw (tree, y) (h ∙ rw y)
        go false true y z = let w : ltb x (length c.tree.now) ≡ false = rw tree y in rw (w, z, here) (h ∙ rw (y, g.first, z, tree))
        go false false y z = let w : ltb x (length c.tree.now) ≡ false = rw tree y in rw (w, z) (rw y (h ∙ rw (y, g.first, z)))

-- the parts that are noted, and the children that are left
pub record Walked (e : Place) (k : List Element) (r : Root) : Type 0 where
  pub each : Parts (Left e k) r

module _ (e : Place) {r : Root} where
  pub parts_begin : {k : List Element} → k ≡ elements (meaning e).below → Parts (λ n x. x ≡ length e.tree.now) r → Walked e k r
  parts_begin q h = record { each = parts_all (λ n x. x ≡ length e.tree.now) (Left e _) (left_all e q) h }

  pub parts_end : {k : List Element} → k ≡ [] → Walked e k r → Parts (λ n x. Stands e.tree.now x (child (meaning e) n)) r
  parts_end q h = parts_all (Left e _) (λ n x. Stands e.tree.now x (child (meaning e) n)) (left_end e q) h.each

  pub parts_next : {s t : Siblings} {c : Place} {m : Bor Text} → GivesSibling s c m t → s.tree.now ≡ e.tree.now → {r' : Root} → Notes c.tree.now c.at r r' → Walked e (siblings_left s) r → Walked e (siblings_left t) r'
  parts_next g q m h = record { each = parts_noted (Left e _) (Left e _) m (left_noted e g q) h.each }
