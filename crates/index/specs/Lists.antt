-- What the library's consumers tell of an iterator over a chain: the rows that it goes through. Assumes nothing.
use Rattle.std.specs.Prelude.{if◌then◌else◌, ◌≡◌, refl, Bool, true, false, ◌||◌, List, [], ◌∷◌, ℕ, zero, suc, ◌≤◌, ◌<◌, get_or, All, Option, Some, None}
use Rattle.std.proofs.Common.{◌∙◌, arith}
use Rattle.std.proofs.lemmas.Iterator.{YieldsList}
use Rattle.std.proofs.lemmas.Iterator.Consumers.{YieldsList-from_first}
use Rattle.std.specs.Iterator.{YieldsFirst}
use Rattle.std.specs.List.{list_any, find as first_that}
use Rattle.std.specs.Option.{option_map}
use Rattle.definition.specs.Base.{keep, first, find, given}
use Rattle.index.specs.Chains.{next_at, next_of, walk, up_to, chain, rows_left}
use Rattle.index.specs.Law.{below_small}
use Rattle.index.specs.declared.Chain.{Chain}
use Rattle.index.specs.declared.Table.{Table}

pub chain_list : (c : Chain) → YieldsList (YieldsFirst rows_left) (λ (r : ℕ). r) c (rows_left c)
chain_list c = YieldsList-from_first (λ (r : ℕ). r) rows_left (rows_left c) refl

-- each is below what is above the first
walk_below : (w : List ℕ) (t : Table) {n : ℕ} (k : ℕ) (at : Option ℕ) → up_to at ≤ n → All (λ r. r < n) (walk w t k at)
unfolding walk
walk_below w t zero at h i d l = absurd (omega arith)
walk_below w t (suc k) None h i d l = absurd (omega arith)
walk_below w t (suc k) (Some r) h zero d l = omega arith
walk_below w t (suc k) (Some r) h (suc i) d l =
    let z : up_to (next_of w t r) ≤ r = below_small r (get_or w (next_at t r) 0) in
    walk_below w t k (next_of w t r) (omega arith) i d (omega arith)

pub chain_below : (w : List ℕ) (t : Table) (at : Option ℕ) {n : ℕ} → up_to at ≤ n → All (λ r. r < n) (chain w t at)
chain_below w t at h = walk_below w t (up_to at) at h

-- `find`, in the definition's word
pub find_is : {A : Type 0} (p : A → Bool) (l : List A) → first_that p l ≡ find p l
unfolding keep first
find_is p [] = refl
find_is p (x ∷ l) = by (p x) (find_is p l)
  where
    by : (b : Bool) → first_that p l ≡ find p l → (if b then Some x else first_that p l) ≡ first (if b then x ∷ keep p l else keep p l)
    by true h = refl
    by false h = h

pub found_is : {A : Type 0} (p : A → Bool) (l : List A) (o : Option A) → option_map (λ x. x) o ≡ first_that p l → o ≡ find p l
found_is p l None h = h ∙ find_is p l
found_is p l (Some x) h = h ∙ find_is p l

-- `any`
pub any_is : {A : Type 0} (p : A → Bool) (l : List A) → list_any p l ≡ given (find p l)
unfolding keep first
any_is p [] = refl
any_is p (x ∷ l) = by (p x) (any_is p l)
  where
    by : (b : Bool) → list_any p l ≡ given (find p l) → (b || list_any p l) ≡ given (first (if b then x ∷ keep p l else keep p l))
    by true h = refl
    by false h = h
