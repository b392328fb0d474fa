-- Keys that come twice, looked for among the earlier ones. Assumes nothing.
use mathlib.Core.Path.{◌≡◌, refl, sym, ap, ◌∙◌}
use mathlib.Core.Bool.{Bool, true, false, ◌&&◌, ◌||◌, not, true≢false}
use mathlib.Core.List.{List, ◌∷◌, ◌++◌, []}
use Prim.Native.Nat.{ℕ, zero, suc, ◌≤◌}
use native.Mathlib.Omega.{arith}
use borrow.Author.Tests.{eqb-true, eq-eqb}
use lib.Dec.{eqb}
use lib.ListN.{length, get_or, take}
use lib.Seq.{take-suc, take-length}
use Rattle.definition.specs.Base.{given, some?, same}
use Rattle.definition.specs.Check.{distinct}
use Rattle.laws.specs.Bools.{both}
use Rattle.laws.specs.Same.{same_eq, same_refl}
use Rattle.index.specs.Last.{last_below, last_none}
use Rattle.index.proofs.Last.{last_yes, last_no}
use Rattle.model_check.specs.Keys.{Key, no_key, same_key}

-- ---- keys that are the same

pub key_is : (k l : Key) → same_key k l ≡ true → k ≡ l
key_is k l h =
    let (p, q) = both (eqb k.0 l.0) (same k.1 l.1) h in
    ap (λ (n : ℕ). (n, k.1)) (eqb-true k.0 l.0 p) ∙ ap (λ (t : List ℕ). (l.0, t)) (same_eq k.1 l.1 q)

key_turned : (k l : Key) → same_key k l ≡ same_key l k
key_turned k l = by (same_key k l) (same_key l k) refl refl
  where
    own : (k : Key) → same_key k k ≡ true
    own k = rw (eq-eqb k.0 k.0 refl) (same_refl k.1)

    by : (t u : Bool) → same_key k l ≡ t → same_key l k ≡ u → t ≡ u
    by true true e f = refl
    by false false e f = refl
    by true false e f = absurd (true≢false (sym (own l) ∙ ap (same_key l) (sym (key_is k l e)) ∙ f))
    by false true e f = absurd (true≢false (sym (own k) ∙ ap (same_key k) (sym (key_is l k f)) ∙ e))

-- ---- one key more

some_end : {A : Type 0} (p : A → Bool) (l : List A) (x : A) → some? p (l ++ (x ∷ [])) ≡ p x || some? p l
unfolding some?
some_end p [] x = refl
some_end p (y ∷ l) x = ap (λ (b : Bool). p y || b) (some_end p l x) ∙ by (p y) (p x)
  where
    by : (a b : Bool) → a || (b || some? p l) ≡ b || (a || some? p l)
    by true true = refl
    by true false = refl
    by false b = refl

distinct_end : (l : List Key) (x : Key) → distinct same_key (l ++ (x ∷ [])) ≡ not (some? (same_key x) l) && distinct same_key l
unfolding distinct some?
distinct_end [] x = refl
distinct_end (y ∷ l) x = rw (some_end (same_key y) l x, distinct_end l x, key_turned y x) (by (same_key x y) (some? (same_key y) l) (some? (same_key x) l))
  where
    by : (a b c : Bool) → not (a || b) && (not c && distinct same_key l) ≡ not (a || c) && (not b && distinct same_key l)
    by true b c = refl
    by false true true = refl
    by false true false = refl
    by false false c = refl

-- ---- the first keys of a list

-- the rows below n with a key that passes a test, and those keys
pub some_below : (p : Key → Bool) (ks : List Key) (n : ℕ) → n ≤ length ks → given (last_below (λ r. p (get_or ks r no_key)) n) ≡ some? p (take n ks)
unfolding some?
some_below p ks zero h = ap given (last_none (λ r. p (get_or ks r no_key)))
some_below p ks (suc n) h = by (p (get_or ks n no_key)) refl (some_below p ks n (omega arith)) ∙ sym (ap (some? p) (take-suc ks n no_key h) ∙ some_end p (take n ks) (get_or ks n no_key))
  where
    by : (b : Bool) → p (get_or ks n no_key) ≡ b → given (last_below (λ r. p (get_or ks r no_key)) n) ≡ some? p (take n ks)
        → given (last_below (λ r. p (get_or ks r no_key)) (suc n)) ≡ p (get_or ks n no_key) || some? p (take n ks)
    by true e before = ap given (last_yes (λ r. p (get_or ks r no_key)) n e) ∙ rw e
    by false e before = ap given (last_no (λ r. p (get_or ks r no_key)) n e) ∙ rw e before

-- no key of a row from n on has a twin before it
pub record Looked (ks : List Key) (n : ℕ) : Type 0 where
  pub in_range : n ≤ length ks
  pub same : distinct same_key ks ≡ distinct same_key (take n ks)

pub all_left : (ks : List Key) {n : ℕ} → n ≡ length ks → Looked ks n
all_left ks e = record { in_range = omega arith; same = rw (e, take-length ks) refl }

pub none_left : {ks : List Key} {n : ℕ} → Looked ks n → n ≡ 0 → true ≡ distinct same_key ks
unfolding distinct
none_left {ks} v e = sym (v.same ∙ rw e refl)

-- the key of a row has a twin before it, or it has none
module _ {ks : List Key} {i j : ℕ} {b : Bool} (v : Looked ks i) (e : i ≡ suc j) (f : b ≡ some? (same_key (get_or ks j no_key)) (take j ks)) where
  more : distinct same_key ks ≡ not b && distinct same_key (take j ks)
  more =
      let u = take-suc ks j no_key (omega (arith, v.in_range)) in
      v.same ∙ rw e (ap (distinct same_key) u ∙ distinct_end (take j ks) (get_or ks j no_key) ∙ ap (λ (t : Bool). not t && distinct same_key (take j ks)) (sym f))

  pub no_twin : b ≡ false → Looked ks j
  no_twin g = record { in_range = omega (arith, v.in_range); same = more ∙ rw g }

  pub a_twin : b ≡ true → false ≡ distinct same_key ks
  a_twin g = sym (more ∙ rw g)
