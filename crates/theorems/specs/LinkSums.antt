-- What becomes of the link elements: each is kept, dangling or across; the kept ones are the links in order, the others are counted, and together
-- they are all. Assumes nothing.
use Rattle.std.specs.Prelude.{if◌then◌else◌, ◌≡◌, Bool, true}
use Rattle.std.proofs.Math.Path.{refl, ap}
use Rattle.std.proofs.Math.Bool.{false}
use mathlib.Core.List.{List, [], ◌∷◌, map, flat_map, map-map, map-append}
use Prim.Native.Nat.{ℕ, zero, suc, ◌+◌}
use native.Mathlib.Omega.{arith}
use Rattle.std.proofs.Math.ListN.{length}
use Rattle.definition.specs.Base.{keep}
use Rattle.definition.specs.Tree.{Element}
use Rattle.definition.specs.Field.{text_in}
use Rattle.definition.specs.Model.{Link}
use Rattle.definition.specs.Task.{kept_tasks}
use Rattle.definition.specs.Link.{Fate, across, dangling, kept, kept_of, is_dangling, is_across}
use Rattle.laws.specs.Options.{never}
use Rattle.laws.specs.Formats.{got}
use Rattle.theorems.specs.Leads.{At}
use Rattle.theorems.specs.Told.{names_one, goes_across, Joins}

-- ---- what becomes of one

pub data Becomes (root : Element) (x : ℕ × Element) : Fate → Type 0 where
  goes : goes_across x ≡ true → Becomes root x across
  hangs : goes_across x ≡ false → names_one (kept_tasks root) (text_in x.1 "PredecessorUID") ≡ false → Becomes root x dangling
  joins : {l : Link} → goes_across x ≡ false → names_one (kept_tasks root) (text_in x.1 "PredecessorUID") ≡ true → Joins root x l → Becomes root x (kept l)

-- ---- what becomes of all

-- two lists, one by one
pub data Pairs {A B : Type 0} (R : A → B → Type 0) : List A → List B → Type 0 where
  empty : Pairs R [] []
  next : {x : A} {y : B} {xs : List A} {ys : List B} → R x y → Pairs R xs ys → Pairs R (x ∷ xs) (y ∷ ys)

module _ {A B : Type 0} {R : A → B → Type 0} where
  pub pairs_length : {xs : List A} {ys : List B} → Pairs R xs ys → length ys ≡ length xs
  pairs_length empty = refl
  pairs_length (next h hs) = ap suc (pairs_length hs)

  pub pairs_at : {xs : List A} {ys : List B} → Pairs R xs ys → (k : ℕ) (x : A) (y : B) → At xs k x → At ys k y → R x y
  pairs_at empty k x y e f = never e
  pairs_at (next {x = a} {y = b} h hs) zero x y e f = got (λ x. R x y) e (got (R a) f h)
  pairs_at (next h hs) (suc k) x y e f = pairs_at hs k x y e f

pub keep_alike : {A B : Type 0} (f : A → B) (p : B → Bool) (q : A → Bool) → ((x : A) → p (f x) ≡ q x) → (l : List A) → length (keep p (map f l)) ≡ length (keep q l)
unfolding keep
keep_alike f p q h [] = refl
keep_alike f p q h (x ∷ l) = rw (h x) (by (q x) (keep_alike f p q h l))
  where
    by : (t : Bool) → length (keep p (map f l)) ≡ length (keep q l) → length (if t then f x ∷ keep p (map f l) else keep p (map f l)) ≡ length (if t then x ∷ keep q l else keep q l)
    by true e = ap suc e
    by false e = e

pub fates_sum : (l : List Fate) → length (kept_of l) + (length (keep is_dangling l) + length (keep is_across l)) ≡ length l
unfolding kept_of keep
fates_sum [] = omega arith
fates_sum (across ∷ l) = omega (arith, fates_sum l)
fates_sum (dangling ∷ l) = omega (arith, fates_sum l)
fates_sum (kept x ∷ l) = omega (arith, fates_sum l)

pub flat_pairs : {A B C D : Type 0} (f : A × C → D) (g : A × B → List C) (l : List (A × B))
    → flat_map (λ (x : A × B). map (λ (e : C). f (x.0, e)) (g x)) l ≡ map f (flat_map (λ (x : A × B). map (λ (e : C). (x.0, e)) (g x)) l)
unfolding flat_map
flat_pairs f g [] = refl
flat_pairs {A} {B} {C} f g (x ∷ l) =
    let pairs : A × B → List (A × C) = λ x. map (λ (e : C). (x.0, e)) (g x) in
    rw (map-append f (pairs x) (flat_map pairs l), map-map f (λ (e : C). (x.0, e)) (g x), flat_pairs f g l)
