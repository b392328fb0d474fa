-- The table of a list while it is filled: the rows so far are in their chains, each with the place of its element. Assumes nothing.
use Rattle.std.proofs.Common.{◌≡◌, ℕ, suc, ◌+◌, ◌^◌, ◌<◌, ◌≤◌, max, List, ◌∷◌, length, get_or, drop, sym, refl, ap, ◌∙◌, add-one, arith, length-drop, drop-cons, lt-ltb, []}
use Rattle.std.proofs.Math.Nat.{max_comm}
use Rattle.std.proofs.lemmas.List.{drop_all}
use Rattle.std.specs.Prelude.{Option, Some}
use Rattle.definition.specs.Text.{Text}
use Rattle.definition.specs.Tree.{Element}
use Rattle.index.specs.declared.Table.{Table}
use Rattle.index.specs.Hash.{hash_of}
use Rattle.index.specs.Chains.{table_of, zeros, added}
use Rattle.index.specs.Law.{table_placed, Indexed, length_added}
use Rattle.index.proofs.Law.{indexed_none, indexed_by, indexed_same}
use Rattle.index.specs.With.{with, with_here, with_before, one_more}
use Rattle.index.specs.Frame.{Outside, added_outside, zeros_outside}
use Rattle.index.specs.Steps.{length_zeros}
use Rattle.tree.specs.Place.{element_at, meaning, Within}
use Rattle.tree.specs.declared.element.Element.{Element as Place}
use Rattle.rows.specs.Tables.{listed, uid_of, no_element, nth, hash_in, made_for, Ripe, Tabled, Makes}
use Rattle.rows.specs.declared.table.Listed.{Listed}

-- ---- where a list stands

module _ {A : Type 0} (n : ℕ) (l : List A) where
  pub drop_in : {x : A} {k : List A} → drop n l ≡ x ∷ k → n < length l
  drop_in e = let z : length (drop n l) ≡ suc _ = ap length e in omega (arith, length-drop n l)

  pub drop_out : drop n l ≡ [] → length l ≤ n
  drop_out e = let z : length (drop n l) ≡ 0 = ap length e in omega (arith, length-drop n l)

  pub drop_is : (d : A) {x : A} {k : List A} → drop n l ≡ x ∷ k → get_or l n d ∷ drop (n + 1) l ≡ x ∷ k
  drop_is d e = rw (add-one n) (sym (drop-cons l n d (drop_in e)) ∙ e)

pub cons_head : {A : Type 0} {x y : A} {k m : List A} → x ∷ k ≡ y ∷ m → x ≡ y
cons_head e = cc

pub cons_tail : {A : Type 0} {x y : A} {k m : List A} → x ∷ k ≡ y ∷ m → k ≡ m
cons_tail e = cc

-- ---- the rows so far

pub record Filling (s : Text) (root : Element) (l : Listed) (t : Table) (w : List ℕ) (row : ℕ) (rest : List Element) (w' : List ℕ) : Type 0 where
  pub places : ℕ → ℕ
  pub indexed : Indexed t (hash_in l root) places row w'
  pub stands : (r : ℕ) → r < row → element_at s (places r) ≡ nth l root r
  pub within : row ≤ length (listed l root)
  pub left : drop row (listed l root) ≡ rest
  pub length_same : length w' ≡ length w
  pub outside : (j : ℕ) → Outside t j → get_or w' j 0 ≡ get_or w j 0

module _ {s : Text} {root : Element} {l : Listed} {t : Table} {w : List ℕ} (ripe : Ripe s root l t w) {w₀ : List ℕ} where
  pub fill_begin : {rest : List Element} → w₀ ≡ zeros w t.at t.rows → listed l root ≡ rest → Filling s root l t w₀ 0 rest w₀
  fill_begin i h = record {
    places = λ r. 0;
    indexed = rw i (indexed_none _ _ w ripe.fits);
    stands = λ r k. absurd (omega arith);
    within = omega arith;
    left = h;
    length_same = refl;
    outside = λ j k. refl;
  }

  module _ {row : ℕ} {rest : List Element} {w₁ : List ℕ} (f : Filling s root l t w₀ row rest w₁) where
    pub fill_end : w₀ ≡ zeros w t.at t.rows → rest ≡ [] → Tabled s root l t w w₁
    fill_end o i =
        let z : length (listed l root) ≤ row = drop_out row (listed l root) (f.left ∙ i) in
        let y : row ≡ length (listed l root) = omega (arith, f.within) in
        record {
          places = f.places;
          indexed = rw (← y) f.indexed;
          stands = λ r k. f.stands r (omega arith);
          small = ripe.small;
          length_same = f.length_same ∙ ap length o ∙ length_zeros w t.at t.rows;
          outside = λ j k. f.outside j k ∙ ap (λ (v : List ℕ). get_or v j 0) o ∙ zeros_outside w t j k;
        }

    -- every row of the table has its element
    pub fill_full : t.rows ≤ row → rest ≡ []
    fill_full h = sym f.left ∙ drop_all row (listed l root) (omega (arith, ripe.rows))

    module _ (x : Place) {k : List Element} (i : rest ≡ meaning x ∷ k) where
      pub fill_in : row < length (listed l root)
      fill_in = drop_in row (listed l root) (f.left ∙ i)

      pub fill_row : row + 1 < 2 ^ 32
      fill_row = omega (arith, fill_in, ripe.small)

      module _ (m : Within s 0 x) where
        pub fill_place : x.at < 2 ^ 32
        fill_place = omega (arith, m.inside, ripe.short)

        stood : element_at s x.at ≡ nth l root row → (r : ℕ) → r < suc row → element_at s (with f.places row x.at r) ≡ nth l root r
        stood y =
            one_more (λ r. element_at s (with f.places row x.at r) ≡ nth l root r) row (λ r k. rw (with_before f.places row x.at r k) (f.stands r k)) (rw (with_here f.places row x.at) y)

        here : nth l root row ∷ drop (row + 1) (listed l root) ≡ element_at s x.at ∷ k
        here = drop_is row (listed l root) no_element (f.left ∙ i ∙ ap (λ (s : Text). element_at s x.at ∷ k) m.tree)

        pub fill_turn : {u : Text} → u ≡ uid_of (meaning x) → {h : ℕ} → h ≡ hash_of u → {w₂ : List ℕ} → w₂ ≡ added w₁ t row h x.at → Filling s root l t w₀ (row + 1) k w₂
        fill_turn d {h} j {w₂} k =
            let few : row < t.rows = omega (arith, fill_in, ripe.rows) in
            let y : nth l root row ≡ element_at s x.at = cons_head here in
            let z : uid_of (meaning x) ≡ uid_of (nth l root row) = ap (λ (s : Text). uid_of (element_at s x.at)) m.tree ∙ ap (λ (e : Element). uid_of e) (sym y) in
            record {
              places = with f.places row x.at;
              indexed = indexed_by (indexed_same f.indexed (λ q z. refl) (λ q z. sym (with_before f.places row x.at q z))) few (j ∙ ap hash_of d ∙ ap hash_of z) (sym (with_here f.places row x.at)) k;
              stands = λ q z. stood (sym y) q (omega arith);
              within = omega (arith, fill_in);
              left = cons_tail here;
              length_same = ap length k ∙ length_added w₁ t row h x.at ∙ f.length_same;
              outside = λ q z. ap (λ (v : List ℕ). get_or v q 0) k ∙ added_outside w₁ t row h x.at q z ∙ f.outside q z;
            }

-- ---- a table is made

module _ (s : Text) (root : Element) (l : Listed) (at : ℕ) (w : List ℕ) where
  module _ {n k : ℕ} {m : Option Table} (short : length s < 2 ^ 32) (i : n ≡ length (listed l root)) (o : k ≡ max n 1) (j : m ≡ table_of (length w) at k) where
    made_is : m ≡ made_for s root l (length w) at
    made_is = rw (lt-ltb (length s) (2 ^ 32) short) (j ∙ ap (table_of (length w) at) (o ∙ max_comm n 1 ∙ ap (max 1) i))

    module _ {t : Table} (e : m ≡ Some t) where
      pub made_ripe : n < 2 ^ 32 → Ripe s root l t w
      made_ripe h =
          let p = table_placed (length w) at k (sym e ∙ j) in
          let z : t.rows ≡ k = ap (λ (t : Table). t.rows) p.is in
          record { short = short; small = omega arith; rows = omega arith; fits = p.fits }

      pub makes_filled : {w' : List ℕ} → Tabled s root l t w w' → Makes s root l at w w' (Some t)
      makes_filled x = record { made = sym e ∙ made_is; words = x }
