-- A turn of the loop that puts the parents into the words: the record at a place is that of the next activity, and its parent's word is the
-- activity's. Assumes nothing.
use mathlib.Core.Path.{◌≡◌, refl, sym, ap, subst, ◌∙◌}
use mathlib.Core.Bool.{Bool, true, false}
use mathlib.Core.List.{List, [], ◌∷◌}
use Rattle.std.specs.Prelude.{Option, Some, None}
use Prim.Native.Nat.{ℕ, zero, suc, ◌+◌, ◌-◌, ◌*◌, ◌≤◌, ◌<◌}
use native.Mathlib.Omega.{arith}
use borrow.Author.Tests.{eqb-true, eqb-false}
use lib.Dec.{eqb}
use lib.ListN.{length, get_or, set, drop}
use lib.Seq.{get_or-set_same, get_or-set_other}
use Rattle.definition.specs.Format.{whole, times, Format}
use Rattle.definition.specs.Model.{Activity}
use Rattle.definition.specs.Pack.{activity}
use Rattle.definition.specs.Base.{◌>>=◌}
use Rattle.definition.specs.Bits.{Bits}
use Rattle.bits.specs.Reads.{rest, Reads}
use Rattle.bits.specs.declared.Place.{Place}
use Rattle.bits.specs.declared.Field.{Field}
use Rattle.model.specs.Parts.{lax_activities}
use Rattle.model.specs.Sections.{Holds, byte_at, byte_rest, none_passed, one_passed}
use Rattle.model.specs.declared.Section.{Section}
use Rattle.outline.specs.Steps.{word_of}
use Rattle.outline.specs.Filled.{parents, Names, ParentAt}

-- the first of the activities that are left
parent_at_lem : (xs : List Activity) (i : ℕ) {a : Activity} {ys : List Activity} → drop i xs ≡ a ∷ ys → get_or (parents xs) i None ≡ a.parent
parent_at_lem [] zero e = let z : ◌≡◌ {A = ℕ} 0 1 = cc in absurd (omega arith)
parent_at_lem [] (suc i) e = let z : ◌≡◌ {A = ℕ} 0 1 = cc in absurd (omega arith)
parent_at_lem (x ∷ xs) zero {a} e = let z : x ≡ a = cc in ap (λ (a : Activity). a.parent) z
parent_at_lem (x ∷ xs) (suc i) e = parent_at_lem xs i e

-- the parents of i activities are in the words, and the others' records stand from a place on
pub record Turn (s : List ℕ) (x : Section) (xs : List Activity) (next : ℕ) (q : Place) (i : ℕ) (w : List ℕ) : Type 0 where
  pub left : Reads (times (x.count - i) (whole activity)) s q (drop i xs) (byte_at next)
  pub names : Names xs i w

module _ {s : List ℕ} {x : Section} {xs : List Activity} {next : ℕ} (h : Holds activity s x xs next) where
  pub turn_none : {p : Place} (w : List ℕ) → p ≡ byte_at x.at → Turn s x xs next p 0 w
  turn_none w e = record { left = subst (λ (q : Place). Reads (times (x.count - 0) (whole activity)) s q (drop 0 xs) (byte_at next)) (sym e) (none_passed h); names = λ r k. absurd (omega arith) }

  pub turn_more : {q : Place} {w : List ℕ} {a : Field ℕ Place} (i : ℕ) → i < x.count → 4 * x.count ≤ length w → Turn s x xs next q i w → ParentAt s q a
      → Turn s x xs next a.next (i + 1) (set w (4 * i + 0) a.value)
  turn_more {w = w} {a} i l room t p =
      let u = one_passed h i (lax_activities true) t.left l p.next in
      record { left = u.on; names = λ r k. at r k (eqb r i) refl (p.word u.item u.stands ∙ ap word_of (sym (parent_at_lem xs i u.is))) }
    where
      at : (r : ℕ) → r < i + 1 → (b : Bool) → eqb r i ≡ b → a.value ≡ word_of (get_or (parents xs) i None)
          → get_or (set w (4 * i + 0) a.value) (4 * r) 0 ≡ word_of (get_or (parents xs) r None)
      at r k true e g =
          let z : r ≡ i = eqb-true r i e in
          let y : 4 * i ≡ 4 * i + 0 = omega arith in
          rw z (ap (λ (j : ℕ). get_or (set w (4 * i + 0) a.value) j 0) y ∙ get_or-set_same w (4 * i + 0) a.value 0 (omega arith) ∙ g)
      at r k false e g =
          let z : r ≡ i → ⊥ = eqb-false r i e in
          get_or-set_other w (4 * i + 0) (4 * r) a.value 0 (λ y. z (omega arith)) ∙ t.names r (omega (arith, z))

  -- a place past every end is none of theirs
  pub turn_far : {q : Place} {w : List ℕ} {A : Type 0} (i : ℕ) → Turn s x xs next q i w → rest s q ≡ None → A
  turn_far {q} i t e =
      let f : Format (List Activity) = times (x.count - i) (whole activity) in
      let z : ◌≡◌ {A = Option (List Activity × Bits)} None (Some (drop i xs, _)) =
      sym (ap (λ (o : Option Bits). o >>= f.get) e) ∙ t.left.reads ∙ ap (λ (o : Option Bits). o >>= λ l. Some (drop i xs, l)) (byte_rest s next h.ends) in
      let y : ◌≡◌ {A = ℕ} 0 1 = cc in
      absurd (omega arith)
