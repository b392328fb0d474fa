-- Which tasks are kept: those of the first 100,000 Task elements that have a UID other than `0` and a level of at least 1, in their order. Assumes nothing.
use Rattle.std.specs.Prelude.{if◌then◌else◌, ◌≡◌, Bool, ◌&&◌, not, leb, take}
use Rattle.std.proofs.Math.Path.{refl, ap}
use Rattle.std.proofs.Common.{sym, ◌∙◌, true≢false, leb-true, le-leb}
use Rattle.std.proofs.Math.Bool.{true, false}
use mathlib.Core.List.{List, [], ◌∷◌}
use Rattle.std.specs.Prelude.{Option, Some, None}
use Rattle.laws.specs.Options.{Some-injective}
use Prim.Native.Nat.{ℕ, zero, suc, ◌≤◌, ◌<◌}
use native.Mathlib.Omega.{arith}
use Rattle.std.proofs.lemmas.Bool.{not-true}
use Rattle.std.proofs.Math.ListN.{length}
use Rattle.definition.specs.Base.{◌or◌, given, keep, same}
use Rattle.definition.specs.Ascii.{bytes}
use Rattle.definition.specs.Text.{Text}
use Rattle.definition.specs.Tree.{Element}
use Rattle.definition.specs.Field.{text_in}
use Rattle.definition.specs.Task.{most_tasks, level_of, own_uid, is_kept, kept_tasks}
use Rattle.laws.specs.Bools.{both}
use Rattle.laws.specs.Options.{never}
use Rattle.laws.specs.Same.{same_refl, same_eq}
use Rattle.theorems.specs.Leads.{At}
use Rattle.theorems.specs.Told.{task_elements, IsTask, AreKept}

-- ---- what is kept of a list

pub take_in : {A : Type 0} (n : ℕ) (l : List A) (i : ℕ) (x : A) → At (take n l) i x → (i < n) × At l i x
take_in zero l i x e = never e
take_in (suc n) [] i x e = never e
take_in (suc n) (y ∷ l) zero x e = (omega arith, e)
take_in (suc n) (y ∷ l) (suc i) x e = let (h, k) = take_in n l i x e in (omega arith, k)

in_take : {A : Type 0} (n : ℕ) (l : List A) (i : ℕ) (x : A) → i < n → At l i x → At (take n l) i x
in_take zero l i x h e = absurd (omega arith)
in_take (suc n) [] i x h e = never e
in_take (suc n) (y ∷ l) zero x h e = e
in_take (suc n) (y ∷ l) (suc i) x h e = in_take n l i x (omega arith) e

module _ {A : Type 0} (p : A → Bool) where
  abbrev place_by : Bool → (ℕ → ℕ) → ℕ → ℕ
  place_by true f zero = 0
  place_by true f (suc row) = suc (f row)
  place_by false f row = suc (f row)

  -- where the one of a row stood
  abbrev place_in : List A → ℕ → ℕ
  place_in [] row = 0
  place_in (x ∷ l) row = place_by (p x) (place_in l) row

  keep_at : (l : List A) (row : ℕ) (x : A) → At (keep p l) row x → At l (place_in l row) x × (p x ≡ true)
  unfolding keep
  keep_at [] row x e = never e
  keep_at (y ∷ l) row x e = by (p y) refl row e (keep_at l)
    where
      by : (t : Bool) → p y ≡ t → (row : ℕ) → At (if t then y ∷ keep p l else keep p l) row x
          → ((row : ℕ) (x : A) → At (keep p l) row x → At l (place_in l row) x × (p x ≡ true)) → At (y ∷ l) (place_by t (place_in l) row) x × (p x ≡ true)
      by true h zero e more = (e, ap p (sym (Some-injective y x e)) ∙ h)
      by true h (suc row) e more = more row x e
      by false h row e more = more row x e

  keep_rising : (l : List A) (i j : ℕ) → i < j → j < length (keep p l) → place_in l i < place_in l j
  unfolding keep
  keep_rising [] i j h k = absurd (omega arith)
  keep_rising (y ∷ l) i j h k = by (p y) i j h k (keep_rising l)
    where
      by : (t : Bool) (i j : ℕ) → i < j → j < length (if t then y ∷ keep p l else keep p l)
          → ((i j : ℕ) → i < j → j < length (keep p l) → place_in l i < place_in l j) → place_by t (place_in l) i < place_by t (place_in l) j
      by true i zero h k more = absurd (omega arith)
      by true zero (suc j) h k more = omega arith
      by true (suc i) (suc j) h k more = omega (arith, more i j (omega arith) (omega arith))
      by false i j h k more = omega (arith, more i j h k)

  keep_each : (l : List A) (i : ℕ) (x : A) → At l i x → p x ≡ true → (row : ℕ) × ((place_in l row ≡ i) × At (keep p l) row x)
  unfolding keep
  keep_each [] i x e h = never e
  keep_each (y ∷ l) zero x e h = by (p y) (ap p (Some-injective y x e) ∙ h)
    where
      by : (t : Bool) → t ≡ true → (row : ℕ) × ((place_by t (place_in l) row ≡ 0) × At (if t then y ∷ keep p l else keep p l) row x)
      by true k = (0, (refl, e))
      by false k = absurd (true≢false (sym k))
  keep_each (y ∷ l) (suc i) x e h = by (p y) (keep_each l i x e h)
    where
      by : (t : Bool) → (row : ℕ) × ((place_in l row ≡ i) × At (keep p l) row x)
          → (row : ℕ) × ((place_by t (place_in l) row ≡ suc i) × At (if t then y ∷ keep p l else keep p l) row x)
      by true (row, (a, b)) = (suc row, (ap suc a, b))
      by false (row, (a, b)) = (row, (ap suc a, b))

-- ---- tasks

is_task_lem : (t : Element) → is_kept t ≡ true → IsTask t
is_task_lem t k =
    let (u, l) = both (own_uid t) (leb 1 (level_of t)) k in
    let (g, o) = both (given (text_in t "UID")) (not (same (text_in t "UID" or []) (bytes "0"))) u in
    by (text_in t "UID") refl g (not-true (same (text_in t "UID" or []) (bytes "0")) o) (leb-true 1 (level_of t) l)
  where
    by : (o : Option Text) → text_in t "UID" ≡ o → given o ≡ true → same (text_in t "UID" or []) (bytes "0") ≡ false → 1 ≤ level_of t → IsTask t
    by None e g n l = absurd (true≢false (sym g))
    by (Some u) e g n l =
        record { uid = u; has = e; other = λ z. true≢false (sym (same_refl (bytes "0")) ∙ ap (λ (s : Text). same s (bytes "0")) (sym (ap (λ (o : Option Text). o or []) e ∙ z)) ∙ n); level = l }

task_is : (t : Element) → IsTask t → is_kept t ≡ true
task_is t h = rw (h.has, le-leb 1 (level_of t) h.level) (by (same h.uid (bytes "0")) refl)
  where
    by : (b : Bool) → same h.uid (bytes "0") ≡ b → (not b && true) ≡ true
    by false e = refl
    by true e = absurd (h.other (same_eq h.uid (bytes "0") e))

module _ (root : Element) where
  abbrev early : List Element
  early = take most_tasks (task_elements root)

  pub are_kept : AreKept (task_elements root) (kept_tasks root)
  unfolding kept_tasks
  are_kept = record {
    place = place_in is_kept early;
    stands = λ row t e. (take_in most_tasks (task_elements root) (place_in is_kept early row) t (keep_at is_kept early row t e).0).1;
    early = λ row t e. (take_in most_tasks (task_elements root) (place_in is_kept early row) t (keep_at is_kept early row t e).0).0;
    is_task = λ row t e. is_task_lem t (keep_at is_kept early row t e).1;
    rising = keep_rising is_kept early;
    each = λ i t h e k. keep_each is_kept early i t (in_take most_tasks (task_elements root) i t h e) (task_is t k);
  }

  -- a kept task has a UID
  pub kept_uid : (row : ℕ) (t : Element) → At (kept_tasks root) row t → text_in t "UID" ≡ Some (text_in t "UID" or [])
  kept_uid row t e = let u = (are_kept.is_task row t e).has in u ∙ ap Some (sym (ap (λ (o : Option Text). o or []) u))
