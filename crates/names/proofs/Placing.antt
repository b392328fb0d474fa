-- The table of the calendars while it is filled. Assumes nothing.
use Prim.Native.Nat.{ℕ, suc, ◌+◌, ◌-◌, ◌%◌, ◌≤◌, ◌<◌}
use native.Mathlib.Nat.{mod-lt}
use native.Mathlib.Omega.{arith}
use mathlib.Core.Path.{◌≡◌, refl, sym, ap, ◌∙◌}
use mathlib.Core.Bool.{Bool, true, false}
use mathlib.Core.List.{List, ◌∷◌, []}
use lib.Dec.{eqb}
use lib.ListN.{length, get_or, set, drop, length-set}
use lib.Seq.{get_or-set_same, get_or-set_other}
use borrow.Author.Tests.{eqb-true, eqb-false}
use Rattle.definition.specs.Text.{Text}
use Rattle.definition.specs.Tree.{Element}
use Rattle.index.specs.declared.Table.{Table}
use Rattle.index.specs.Hash.{hash_of}
use Rattle.index.specs.Chains.{place_at, place_of, end_of, zeros, added}
use Rattle.index.specs.Law.{Fits, added_other, length_added}
use Rattle.index.proofs.Law.{indexed_none, indexed_by, indexed_same}
use Rattle.index.specs.Frame.{zeros_other, zeros_outside, added_outside}
use Rattle.index.specs.Steps.{length_zeros}
use Rattle.rows.specs.Rows.{in_order}
use Rattle.rows.specs.Tables.{uid_of, no_element}
use Rattle.tree.specs.declared.element.Element.{Element as Standing}
use Rattle.rows.proofs.Filling.{drop_in, drop_out, drop_is, cons_head, cons_tail}
use Rattle.tree.specs.Place.{element_at, meaning, Within}
use Rattle.names.specs.Uids.{names_end, how_many, of_row, Stays, Ripe, Stand, Chained}

-- ---- words that stay

pub stays_refl : (from to : ℕ) (w : List ℕ) → Stays from to w w
stays_refl from to w = record { long = refl; outside = λ j h. refl }

pub stays_then : {from to : ℕ} {a b c : List ℕ} → Stays from to a b → Stays from to b c → Stays from to a c
stays_then p q = record { long = q.long ∙ p.long; outside = λ j h. q.outside j h ∙ p.outside j h }

pub stays_wider : {from to from' to' : ℕ} {w w' : List ℕ} → from' ≤ from → to ≤ to' → Stays from to w w' → Stays from' to' w w'
stays_wider a b p = record { long = p.long; outside = λ j h. p.outside j (λ k l. h (omega arith) (omega arith)) }

pub stays_set : {from to : ℕ} (w : List ℕ) (k v : ℕ) → from ≤ k → k < to → Stays from to w (set w k v)
stays_set w k v a b =
    record { long = length-set w k v; outside = λ j h. get_or-set_other w k j v 0 (λ e. h (omega arith) (omega arith)) }

-- ---- where each calendar stands

pub record Placing (s : Text) (root : Element) (t : Table) (left : ℕ) (rest : List Element) (w w' : List ℕ) : Type 0 where
  pub few : left ≤ t.rows
  pub most : t.rows - left ≤ how_many root
  pub ahead : drop (t.rows - left) (in_order root) ≡ rest
  pub stand : Stand s root t left w'
  pub stays : Stays t.at (names_end t) w w'

module _ {s : Text} {root : Element} {t : Table} {w : List ℕ} (ripe : Ripe s root t (length w)) where
  module _ {left : ℕ} {rest : List Element} {w₁ : List ℕ} (p : Placing s root t left rest w w₁) where
    none_left : rest ≡ [] → t.rows - left ≡ how_many root
    none_left i = omega (arith, drop_out (t.rows - left) (in_order root) (p.ahead ∙ i), p.most)

    pub placing_end : rest ≡ [] → (t.rows - left ≡ how_many root) × Stand s root t 0 w₁ × Stays t.at (names_end t) w w₁
    placing_end i =
        let z = none_left i in
        (z, record { stands = λ r a b. p.stand.stands r (omega (arith, p.few, ripe.rows)) b }, p.stays)

    module _ (x : Standing) {more : List Element} (i : rest ≡ meaning x ∷ more) where
      split : drop (t.rows - left) (in_order root) ≡ meaning x ∷ more
      split = p.ahead ∙ i

      pub placing_more : 0 < left
      placing_more = omega (arith, drop_in (t.rows - left) (in_order root) split, ripe.rows, p.few)

      placing_rows : t.rows ≡ how_many root
      placing_rows = omega (arith, drop_in (t.rows - left) (in_order root) split, ripe.rows)

      both : get_or (in_order root) (t.rows - left) no_element ∷ drop (t.rows - left + 1) (in_order root) ≡ meaning x ∷ more
      both = drop_is (t.rows - left) (in_order root) no_element split

      here : meaning x ≡ of_row root (left - 1)
      here =
          let z : t.rows - left ≡ how_many root - suc (left - 1) = omega (arith, placing_more, placing_rows) in
          sym (cons_head both) ∙ ap (λ (k : ℕ). get_or (in_order root) k no_element) z

      module _ (m : Within s 0 x) where
        here_at : element_at s x.at ≡ of_row root (left - 1)
        here_at = ap (λ (s : Text). element_at s x.at) (sym m.tree) ∙ here

        module _ {w₂ : List ℕ} (j : w₂ ≡ set w₁ (place_at t (left - 1)) x.at) where
          stood : (r : ℕ) (b : Bool) → eqb r (left - 1) ≡ b → left - 1 ≤ r → r < how_many root → element_at s (place_of w₂ t r) ≡ of_row root r
          stood r true z a b =
              let y : r ≡ left - 1 = eqb-true r (left - 1) z in
              let y2 : place_of w₂ t (left - 1) ≡ x.at =
              ap (λ (l : List ℕ). get_or l (place_at t (left - 1)) 0) j ∙ get_or-set_same w₁ (place_at t (left - 1)) x.at 0 (omega (arith, p.stays.long, ripe.room)) in
              rw y (ap (element_at s) y2 ∙ here_at)
          stood r false z a b =
              let y : r ≡ left - 1 → ⊥ = eqb-false r (left - 1) z in
              ap (λ (l : List ℕ). element_at s (get_or l (place_at t r) 0)) j
              ∙ ap (element_at s) (get_or-set_other w₁ (place_at t (left - 1)) (place_at t r) x.at 0 (λ q. y (omega arith)))
              ∙ p.stand.stands r (omega (arith, y)) b

          pub placing_turn : Placing s root t (left - 1) more w w₂
          placing_turn =
              let z : t.rows - left + 1 ≡ t.rows - (left - 1) = omega (arith, placing_more, p.few) in
              record {
                few = omega (arith, p.few);
                most = omega (arith, drop_in (t.rows - left) (in_order root) split, p.few);
                ahead = ap (λ (k : ℕ). drop k (in_order root)) (sym z) ∙ cons_tail both;
                stand = record { stands = λ r a b. stood r (eqb r (left - 1)) refl a b };
                stays = stays_then p.stays (rw j (stays_set w₁ (place_at t (left - 1)) x.at (omega arith) (omega (arith, placing_more, p.few))));
              }

-- ---- all rows into their chains

module _ (s : Text) (w : List ℕ) {t : Table} (fits : Fits t (length w)) {w₀ : List ℕ} (i : w₀ ≡ zeros w t.at t.rows) where
  pub chained_none : Chained s t 0 w₀ w₀
  chained_none =
      record {
        indexed = rw i (indexed_none _ _ w fits);
        ahead = λ r a b. refl;
        stays = stays_refl t.at (end_of t) w₀;
      }

  place_cleared : (r : ℕ) → r < t.rows → place_of w₀ t r ≡ place_of w t r
  place_cleared r h =
      ap (λ (l : List ℕ). get_or l (place_at t r) 0) i ∙ zeros_other w t.at t.rows (place_at t r) (λ k b e. omega arith)

  -- the places are those that stood there before the chains were emptied
  pub chained_all : {n : ℕ} {w₁ : List ℕ} → Chained s t n w₀ w₁ → Chained s t n w w₁
  chained_all x =
      record {
        indexed = indexed_same x.indexed (λ r h. ap (λ (p : ℕ). hash_of (uid_of (element_at s p))) (place_cleared r (omega (arith, x.indexed.few)))) (λ r h. place_cleared r (omega (arith, x.indexed.few)));
        ahead = λ r a b. x.ahead r a b ∙ place_cleared r b;
        stays = stays_then (rw i (record { long = length_zeros w t.at t.rows; outside = zeros_outside w t })) x.stays;
      }

pub chained_more : {s : Text} {t : Table} {n : ℕ} {w w₁ : List ℕ} → Chained s t n w w₁ → n < t.rows → {at : ℕ} → at ≡ place_of w₁ t n → {u : Text} → u ≡ uid_of (element_at s at)
    → {h : ℕ} → h ≡ hash_of u → {w₂ : List ℕ} → w₂ ≡ added w₁ t n h at → Chained s t (n + 1) w w₂
chained_more {s} {t} {n} {w} {w₁} x few {at} i {u} j {h} k {w₂} l =
    let a : at ≡ place_of w t n = i ∙ x.ahead n (omega arith) few in
    record {
      indexed = indexed_by x.indexed few (k ∙ ap hash_of j ∙ ap (λ (p : ℕ). hash_of (uid_of (element_at s p))) a) a l;
      ahead = λ r b c.
          let z : h % t.rows < t.rows = mod-lt h x.indexed.fits.some in
          ap (λ (v : List ℕ). get_or v (place_at t r) 0) l
          ∙ added_other t w₁ n h at few (place_at t r) (λ e. omega arith) (λ e. omega arith) (λ e. omega arith)
          ∙ x.ahead r (omega arith) c;
      stays = stays_then x.stays (rw l (record { long = length_added w₁ t n h at; outside = added_outside w₁ t n h at }));
    }
