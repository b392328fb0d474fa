-- Tests of lists: some item passes, each does, no two are the same. Assumes nothing.
use Rattle.std.specs.Prelude.{if◌then◌else◌, ◌≡◌, Bool, ◌&&◌, ◌||◌, not}
use Rattle.std.proofs.Math.Path.{refl, ap}
use Rattle.std.proofs.Common.{sym, ◌∙◌, true≢false}
use Rattle.std.proofs.Math.Bool.{true, false, or-true}
use mathlib.Core.List.{List, [], ◌∷◌, ◌++◌, map}
use Rattle.std.proofs.lemmas.Bool.{not-true}
use Rattle.definition.specs.Base.{keep, some?, every?}
use Rattle.definition.specs.Check.{distinct}
use Rattle.laws.specs.Bools.{both}
use Rattle.laws.specs.Each.{Each, empty, next, each_less}

pub neither : (a b : Bool) → (a || b) ≡ false → (a ≡ false) × (b ≡ false)
neither true b h = absurd (true≢false h)
neither false b h = (refl, h)

module _ {A : Type 0} (p : A → Bool) where
  pub some_both : (k l : List A) → some? p (k ++ l) ≡ (some? p k || some? p l)
  unfolding some?
  some_both [] l = refl
  some_both (x ∷ k) l = by (p x) (some_both k l)
    where
      by : (t : Bool) → some? p (k ++ l) ≡ (some? p k || some? p l) → (t || some? p (k ++ l)) ≡ (t || some? p k || some? p l)
      by true h = refl
      by false h = h

  pub some_map : {B : Type 0} (f : B → A) (l : List B) → some? p (map f l) ≡ some? (λ x. p (f x)) l
  unfolding some?
  some_map f [] = refl
  some_map f (x ∷ l) = ap (λ (t : Bool). p (f x) || t) (some_map f l)

  pub some_keep : (test : A → Bool) (l : List A) → some? p (keep test l) ≡ some? (λ x. test x && p x) l
  unfolding some? keep
  some_keep test [] = refl
  some_keep test (x ∷ l) = by (test x) (some_keep test l)
    where
      by : (t : Bool) → some? p (keep test l) ≡ some? (λ x. test x && p x) l
          → some? p (if t then x ∷ keep test l else keep test l) ≡ (t && p x || some? (λ x. test x && p x) l)
      by true h = ap (λ (b : Bool). p x || b) h
      by false h = h

  pub each_passes : {l : List A} → Each (λ x. p x ≡ true) l → every? p l ≡ true
  unfolding every?
  each_passes empty = refl
  each_passes (next h hs) = rw (h, each_passes hs)

-- x is one of a list: where it passes a test, some item does
abbrev pub OneOf : {A : Type 0} → List A → A → Type 0
OneOf {A} l x = (p : A → Bool) → p x ≡ true → some? p l ≡ true

pub each_some : {A : Type 0} (l : List A) → Each (OneOf l) l
unfolding some?
each_some [] = empty
each_some (x ∷ l) = next {x = x} (λ p h. rw h) (each_less (λ y f p e. rw (f p e) (or-true (p x))) (each_some l))

-- ---- a test of two that holds both ways

module _ {A : Type 0} (eq : A → A → Bool) (back : (x y : A) → eq x y ≡ true → eq y x ≡ true) where
  pub turned : (x y : A) → eq x y ≡ eq y x
  turned x y = by (eq x y) (eq y x) refl refl
    where
      by : (t u : Bool) → eq x y ≡ t → eq y x ≡ u → t ≡ u
      by true u e f = sym (back x y e) ∙ f
      by false false e f = refl
      by false true e f = sym e ∙ back y x f

  -- one more that is none of them
  pub distinct_add : (l : List A) (x : A) → distinct eq l ≡ true → some? (eq x) l ≡ false → distinct eq (l ++ (x ∷ [])) ≡ true
  unfolding distinct some?
  distinct_add [] x d f = refl
  distinct_add (y ∷ l) x d f =
      let (u, v) = neither (eq x y) (some? (eq x) l) f in
      let (a, b) = both (not (some? (eq y) l)) (distinct eq l) d in
      let z : some? (eq y) (l ++ (x ∷ [])) ≡ false = some_both (eq y) l (x ∷ []) ∙ rw (not-true (some? (eq y) l) a, turned y x, u) in
      rw (z, distinct_add l x b v)
