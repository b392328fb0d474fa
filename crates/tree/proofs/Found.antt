-- The first of the siblings that has a name, by what `find` tells of them, and the one behind the first so many, by a `for`. Assumes nothing.
use Rattle.std.specs.Prelude.{◌≡◌, ◌≤◌, Bool, true, false, List, [], ◌∷◌, ℕ, ◌+◌, length, drop, Option, None, Some, MatchOption, option_map}
use Rattle.std.proofs.Common.{arith, refl, sym, ap, subst, ◌∙◌, drop-drop}
use Rattle.std.proofs.lemmas.List.{drop_all}
use Rattle.std.specs.Bool.{⊤}
use Rattle.std.specs.Fn.{CalledAt}
use Rattle.std.specs.Iterator.{Yields, YieldsThen}
use Rattle.std.specs.List.{FoldsTo}
use denote.Param.Members.{Mut}
use denote.Ref.{Bor}
use Rattle.definition.specs.Base.{keep, same}
use Rattle.definition.specs.Text.{Text}
use Rattle.definition.specs.Tree.{Element}
use Rattle.tree.specs.Place.{meaning, list_of, Past, Starts}
use Rattle.tree.specs.Walks.{siblings_left, GivesSibling, GivesSiblings}
use Rattle.tree.proofs.Rows.{having}
use Rattle.tree.specs.declared.Siblings.{Siblings}
use Rattle.tree.specs.declared.element.Element.{Element as Place}

-- t comes after s, and what lies between has not the name
record Between (n : Text) (s t : Siblings) : Type 0 where
  same : having n (siblings_left s) ≡ having n (siblings_left t)
  tree : t.tree.now ≡ s.tree.now
  after : s.at ≤ t.at

module _ (n : Text) {s t : Siblings} {x : Place} {m : Bor Text} (h : GivesSibling s x m t) where
  missed : false ≡ same m.now n → having n (siblings_left s) ≡ having n (siblings_left t)
  unfolding keep
  missed e = let z : same (meaning x).name n ≡ false = rw (← h.name) (sym e) in rw (h.first, z)

  had : true ≡ same m.now n → having n (siblings_left s) ≡ list_of n (Some x)
  unfolding keep list_of
  had e = let z : same (meaning x).name n ≡ true = rw (← h.name) (sym e) in rw (h.first, z, h.later)

-- ---- the one behind the first so many

-- l is what is left of those of the name n behind the first k that a walk will still pass, from a position of a tree on
pub record Behind (n : Text) (l : List Element) (s : Text) (from k : ℕ) (t : Siblings) : Type 0 where
  pub left : l ≡ drop k (having n (siblings_left t))
  pub tree : t.tree.now ≡ s
  pub after : from ≤ t.at

module _ {n : Text} {l : List Element} {s : Text} {from k : ℕ} {t : Siblings} (b : Behind n l s from k t) where
  module _ {x : Place} {m : Bor Text} {u : Siblings} (h : GivesSibling t x m u) where
    pub behind_other : false ≡ same m.now n → Behind n l s from k u
    behind_other e = record { left = b.left ∙ ap (drop k) (missed n h e); tree = h.tree ∙ b.tree; after = omega (arith, b.after, h.on.after, h.after) }

    pub behind_one : true ≡ same m.now n → (j : ℕ) → k ≡ j + 1 → Behind n l s from j u
    unfolding keep
    behind_one e j i =
        let z : same (meaning x).name n ≡ true = rw (← h.name) (sym e) in
        let c : having n (siblings_left t) ≡ meaning x ∷ having n (siblings_left u) = rw (h.first, z) in
        let o : k ≡ 1 + j = omega (arith, i) in
        record { left = b.left ∙ ap (λ i. drop i (having n (siblings_left t))) o ∙ sym (drop-drop j 1 (having n (siblings_left t))) ∙ ap (λ (y : List Element). drop j (drop 1 y)) c; tree = h.tree ∙ b.tree; after = omega (arith, b.after, h.on.after, h.after) }

    pub behind_found : true ≡ same m.now n → k ≡ 0 → Starts s n l from (Some x)
    unfolding Past
    behind_found e i = record {
      is = b.left ∙ ap (λ i. drop i (having n (siblings_left t))) i ∙ had n h e;
      on = record { tree = h.on.tree ∙ b.tree; after = omega (arith, b.after, h.on.after); inside = omega (arith, h.on.inside, ap length b.tree) };
    }

  pub behind_none : siblings_left t ≡ [] → Starts s n l from None
  unfolding Past list_of keep
  behind_none e = record { is = b.left ∙ ap (λ (y : List Element). drop k (having n y)) e ∙ drop_all k [] (omega arith); on = tt }

-- ---- the first

-- the element of what is found
abbrev pub element_in : Option (Place × Bor Text) → Option Place
element_in o = option_map (λ x. x.0) o

module _ {F : Type 0} {g : Mut F (Bor (Place × Bor Text) × Unit {0}) Bool} {f : F} {n : Text}
    (k : (x : Place × Bor Text) (b : Bool) (q : F) → CalledAt g f x b q → (q ≡ f) × (b ≡ same x.1.now n)) where
  passed : (xs : List (Place × Bor Text)) (s t : Siblings) (p j : F) → p ≡ f → Yields GivesSiblings s xs t → FoldsTo (λ p x q. CalledAt g p x false q) p xs j → Between n s t × (j ≡ f)
  passed [] s t p j e y c = (record { same = ap (λ (i : Siblings). having n (siblings_left i)) y; tree = ap (λ (i : Siblings). i.tree.now) (sym y); after = omega (arith, ap (λ (i : Siblings). i.at) y) }, sym c ∙ e)
  passed (x ∷ xs) s t p j e y c =
      let w = k x false c.0 (subst (λ q. CalledAt g q x false c.0) e c.1) in
      let a = passed xs y.0 t c.0 j w.0 y.2 c.2 in
      (record { same = missed n y.1 w.1 ∙ a.0.same; tree = a.0.tree ∙ y.1.tree; after = omega (arith, y.1.on.after, y.1.after, a.0.after) }, a.1)

  pub found : (s u : Siblings) (r : Option (Place × Bor Text))
      → (xs : List (Place × Bor Text)) × (j : F) × YieldsThen GivesSiblings s xs r u × FoldsTo (λ p x q. CalledAt g p x false q) f xs j
      × MatchOption r ⊤ (λ x. (h : F) × CalledAt g j x true h)
      → Starts s.tree.now n (having n (siblings_left s)) s.at (element_in r)
  unfolding Past list_of keep
  found s u None d =
      let a = passed d.0 s d.2.0 f d.1 refl d.2.1 d.3 in
      record { is = a.0.same ∙ rw d.2.2.0; on = tt }
  found s u (Some x) d =
      let a = passed d.0 s d.2.0 f d.1 refl d.2.1 d.3 in
      let h = d.2.2 in
      let w = k x true d.4.0 (subst (λ q. CalledAt g q x true d.4.0) a.1 d.4.1) in
      record { is = a.0.same ∙ had n h w.1; on = record { tree = h.on.tree ∙ a.0.tree; after = omega (arith, h.on.after, a.0.after); inside = omega (arith, h.on.inside, ap length a.0.tree) } }
