-- What a loop over a walk learns in each turn: the list that is left is the element and what the next answer stands for, and less is left. Assumes nothing.
use Rattle.std.specs.Prelude.{if◌then◌else◌, ◌≡◌, ℕ, suc, ◌+◌, ◌-◌, ◌<◌, ◌≤◌, Bool, true, false, not, ◌&&◌, List, [], ◌∷◌, length, take, ◌≢◌, refl}
use Rattle.std.proofs.Common.{arith, ◌∙◌}
use Rattle.std.proofs.Math.Path.{sym, ap}
use Rattle.std.proofs.lemmas.Bool.{false≢true}
use mathlib.Core.List.{cons-ne-nil}
use Rattle.std.specs.Prelude.{Option, Some, None}
use Rattle.definition.specs.Base.{◌>>=◌, ◌or◌, given, keep, some?}
use Rattle.definition.specs.Ascii.{bytes}
use Rattle.definition.specs.Text.{Text, trim}
use Rattle.definition.specs.Tree.{Element, child, all_in, non_empty}
use Rattle.definition.specs.Task.{is_kept, kept_tasks}
use Rattle.definition.specs.Calendar.{base_of}
use Rattle.definition.specs.Resource.{is_resource, is_cost, work_resources, cost_resources}
use Rattle.laws.specs.Keep.{one_if, keep_more}
use Rattle.tree.specs.Place.{meaning, later, list_of, Within, Past, Starts}
use Rattle.tree.specs.Root.{own_text}
use Rattle.tree.specs.declared.element.Element.{Element as Place}
use Rattle.rows.specs.Rows.{in_order}
use Rattle.rows.specs.Walks.{ahead, kept_by, kept_after, room, is_work, is_cost_resource, picked_by, Picks, later_in_order, order_by, order_room, order_after}

-- ---- all elements of a name

pub list_end : (n : Text) {e : Option Place} → e ≡ None → list_of n e ≡ []
unfolding list_of
list_end n i = rw i

pub list_at : (n : Text) {e : Option Place} {x : Place} → e ≡ Some x → list_of n e ≡ meaning x ∷ later n x
unfolding list_of
list_at n i = rw i

pub list_next : {s n : Text} {e : Option Place} {x : Place} → e ≡ Some x → {from : ℕ} {r : Option Place} → Starts s n (later n x) from r → list_of n e ≡ meaning x ∷ list_of n r
list_next {s} {n} {x = x} i h = list_at n i ∙ ap (λ (l : List Element). meaning x ∷ l) h.is

pub list_less : {s n : Text} {e : Option Place} {x : Place} → e ≡ Some x → {from : ℕ} {r : Option Place} → Starts s n (later n x) from r → length (list_of n r) < length (list_of n e)
list_less i h = rw (list_next i h) (omega arith)

pub ahead_less : {e : Option Place} {x : Place} → e ≡ Some x → (r : Option Place) → Past x.tree.now (x.at + 1) r → ahead r < ahead e
unfolding ahead Past
ahead_less i None h = rw i (omega arith)
ahead_less i (Some y) h = rw (i, h.tree) (omega (arith, h.after, h.inside))

-- ---- a step of a walk

pub step_less : {A : Type 0} {x : A} {l k : List A} → l ≡ x ∷ k → length k < length l
step_less e = rw e (omega arith)

-- ---- the kept tasks

pub kept_end : {task : Option (Place × ℕ)} → task ≡ None → kept_by task ≡ []
unfolding kept_by
kept_end e = rw e

pub kept_at : {task : Option (Place × ℕ)} {x : Place} {left : ℕ} → task ≡ Some (x, left) → kept_by task ≡ meaning x ∷ keep is_kept (take left (later (bytes "Task") x))
unfolding kept_by
kept_at e = rw e

pub room_at : {task : Option (Place × ℕ)} {x : Place} {left : ℕ} → task ≡ Some (x, left) → room task ≡ suc left
unfolding room
room_at e = rw e

module _ {task : Option (Place × ℕ)} {x : Place} {left : ℕ} (e : task ≡ Some (x, left)) (r : Option (Place × ℕ)) where
  pub kept_next : keep is_kept (take left (later (bytes "Task") x)) ≡ kept_by r → kept_by task ≡ meaning x ∷ kept_by r
  kept_next h = kept_at e ∙ ap (λ (l : List Element). meaning x ∷ l) h

  pub kept_less : {n : ℕ} → room r ≤ n → n ≤ left → room r < room task
  kept_less h k = omega (arith, h, room_at e)

-- what follows the last one given: all where none was
pub kept_all : (root : Element) {last : Option (Place × ℕ)} → last ≡ None → kept_after root last ≡ kept_tasks root
unfolding kept_after
kept_all root i = rw i

pub kept_behind : (root : Element) {last : Option (Place × ℕ)} {x : Place} {left : ℕ} → last ≡ Some (x, left) → kept_after root last ≡ keep is_kept (take left (later (bytes "Task") x))
unfolding kept_after
kept_behind root i = rw i

-- one that is given becomes the last
pub kept_given : (root : Element) {r : Option (Place × ℕ)} {x : Place} {left : ℕ} → r ≡ Some (x, left) → kept_by r ≡ meaning x ∷ kept_after root (Some (x, left))
unfolding kept_after
kept_given root i = kept_at i

-- ---- elements that pass a test

pub picked_end : (n : Text) (w : Element → Bool) {e : Option Place} → e ≡ None → picked_by n w e ≡ []
unfolding picked_by
picked_end n w i = rw i

pub picked_next : {s n : Text} {w : Element → Bool} {e : Option Place} {x : Place} → e ≡ Some x → {from : ℕ} {r : Option Place} → Picks s n w (later n x) from r → picked_by n w e ≡ meaning x ∷ picked_by n w r
unfolding picked_by
picked_next {n = n} {w} {x = x} i h = ap (picked_by n w) i ∙ ap (λ (l : List Element). meaning x ∷ l) h.is

-- ---- the calendars in the order in which they are built

module _ (root : Element) where
  pub order_end : {c : Option Place} → c ≡ None → order_by root c ≡ []
  unfolding order_by
  order_end i = rw i

  pub order_at : {c : Option Place} {x : Place} → c ≡ Some x → order_by root c ≡ meaning x ∷ later_in_order root x
  unfolding order_by
  order_at i = rw i

  pub order_next : {c : Option Place} {x : Place} → c ≡ Some x → (r : Option Place) → later_in_order root x ≡ order_by root r → order_by root c ≡ meaning x ∷ order_by root r
  order_next {x = x} i r h = order_at i ∙ ap (λ (l : List Element). meaning x ∷ l) h

  -- what follows the last one given: all where none was
  pub order_all : {last : Option Place} → last ≡ None → order_after root last ≡ in_order root
  unfolding order_after
  order_all i = rw i

  pub order_behind : {last : Option Place} {x : Place} → last ≡ Some x → order_after root last ≡ later_in_order root x
  unfolding order_after
  order_behind i = rw i

  -- one that is given becomes the last
  pub order_given : {r : Option Place} {x : Place} → r ≡ Some x → order_by root r ≡ meaning x ∷ order_after root (Some x)
  unfolding order_after
  order_given i = order_at i

pub order_some : (s : Text) {c : Option Place} {x : Place} → c ≡ Some x → 0 < order_room s c
unfolding order_room
order_some s {x = x} i = rw i (by (given (base_of (meaning x))))
  where
    by : (t : Bool) → 0 < (if t then suc (length x.tree.now - x.at) else suc (length s + (length x.tree.now - x.at)))
    by true = omega arith
    by false = omega arith

pub order_less : (s : Text) {c : Option Place} {x : Place} → c ≡ Some x → (r : Option Place) → order_room s r < order_room s (Some x) → order_room s r < order_room s c
order_less s i r h = rw i h

-- ---- where a step leads

pub past_all : (s : Text) (m : ℕ) (r : Option Place) → Past s m r → Past s 0 r
unfolding Past
past_all s m None h = tt
past_all s m (Some x) h = record { tree = h.tree; after = omega arith; inside = h.inside }

pub past_in : {s : Text} {m : ℕ} {r : Option Place} {x : Place} → r ≡ Some x → Past s m r → Within s m x
unfolding Past
past_in e h = rw e at h

-- from one place on to a later one of its tree
pub past_from : {s : Text} {m : ℕ} {x : Place} (r : Option Place) → Within s m x → Past x.tree.now (x.at + 1) r → Past s m r
unfolding Past
past_from None h k = tt
past_from (Some y) h k = record { tree = k.tree ∙ h.tree; after = omega (arith, h.after, k.after); inside = rw (← h.tree) k.inside }

pub past_on : {s : Text} {x : Place} (r : Option Place) → Within s 0 x → Past x.tree.now (x.at + 1) r → Past s 0 r
past_on r h k = past_from r h k

-- what is kept passes
pub keep_head : {A : Type 0} (q : A → Bool) (l : List A) {x : A} {k : List A} → keep q l ≡ x ∷ k → q x ≡ true
unfolding keep
keep_head q [] {x} {k} h = absurd (cons-ne-nil _ _ (sym h))
keep_head q (y ∷ l) {x} {k} h = by (q y) refl h (keep_head q l)
  where
    by : (t : Bool) → q y ≡ t → (if t then y ∷ keep q l else keep q l) ≡ x ∷ k → (keep q l ≡ x ∷ k → q x ≡ true) → q x ≡ true
    by true e i more = let z : y ≡ x = cc in rw (← z) e
    by false e i more = more i

-- work and cost resources are those that pass
keep_both : (p q : Element → Bool) (l : List Element) → keep (λ x. p x && q x) l ≡ keep q (keep p l)
unfolding keep
keep_both p q [] = refl
keep_both p q (x ∷ l) = by (p x) (q x) refl (keep_both p q l)
  where
    by : (t u : Bool) → q x ≡ u → keep (λ x. p x && q x) l ≡ keep q (keep p l)
        → (if t && u then x ∷ keep (λ x. p x && q x) l else keep (λ x. p x && q x) l) ≡ keep q (if t then x ∷ keep p l else keep p l)
    by true true i h = rw i (ap (λ (l : List Element). x ∷ l) h)
    by true false i h = rw i h
    by false true i h = h
    by false false i h = h

pub work_picked : (root : Element) → keep is_work (all_in (child root (bytes "Resources")) (bytes "Resource")) ≡ work_resources root
unfolding is_work
work_picked root = keep_both is_resource (λ r. not (is_cost r)) _

pub cost_picked : (root : Element) → keep is_cost_resource (all_in (child root (bytes "Resources")) (bytes "Resource")) ≡ cost_resources root
unfolding is_cost_resource
cost_picked root = keep_both is_resource is_cost _

-- ---- whether any of a list passes: those that are left

pub record AnyIn {A : Type 0} (p : A → Bool) (t : Bool) (l : List A) : Type 0 where
  pub is : t ≡ some? p l

pub any_begin : {A : Type 0} (p : A → Bool) {es l : List A} → es ≡ l → AnyIn p (some? p es) l
any_begin p e = record { is = ap (some? p) e }

module _ {A : Type 0} {p : A → Bool} {t : Bool} {l : List A} (h : AnyIn p t l) where
  pub any_end : l ≡ [] → false ≡ t
  unfolding some?
  any_end i = sym (h.is ∙ rw i)

  module _ {x : A} {k : List A} (i : l ≡ x ∷ k) where
    pub any_here : p x ≡ true → true ≡ t
    unfolding some?
    any_here j = sym (h.is ∙ rw (i, j))

    pub any_on : p x ≡ false → {k' : List A} → k ≡ k' → AnyIn p t k'
    unfolding some?
    any_on j z = record { is = h.is ∙ rw (i, j, z) }

-- ---- how many of a list pass: n before those that are left

pub record ManyIn {A : Type 0} (p : A → Bool) (t n : ℕ) (l : List A) : Type 0 where
  pub is : t ≡ n + length (keep p l)

pub many_begin : {A : Type 0} (p : A → Bool) (l : List A) → ManyIn p (length (keep p l)) 0 l
many_begin p l = record { is = omega arith }

module _ {A : Type 0} {p : A → Bool} {t n : ℕ} {l : List A} (h : ManyIn p t n l) where
  pub many_end : l ≡ [] → n ≡ t
  unfolding keep
  many_end i = omega (arith, h.is ∙ ap (λ l. n + length (keep p l)) i)

  module _ {x : A} {k : List A} (i : l ≡ x ∷ k) {m : ℕ} (j : m ≡ one_if (p x)) where
    many_next : t ≡ n + m + length (keep p k)
    many_next = omega (arith, h.is ∙ ap (λ l. n + length (keep p l)) i, j, keep_more p x k)

    pub many_room : n + m ≤ t
    many_room = omega (arith, many_next)

    pub many_on : {k' : List A} → k ≡ k' → ManyIn p t (n + m) k'
    many_on z = record { is = many_next ∙ ap (λ l. n + m + length (keep p l)) z }

-- ---- a text that may be missing

pub text_given : {A : Type 0} (o : Option Text) (f : Text → Option A) → given o ≡ true → {t : Text} → t ≡ (o or []) → f t ≡ (o >>= f)
text_given None f g e = absurd (false≢true g)
text_given (Some u) f g e = ap f e

pub text_missing : {A : Type 0} (o : Option Text) (f : Text → Option A) → given o ≡ false → None ≡ (o >>= f)
text_missing None f g = refl
text_missing (Some u) f g = absurd (false≢true (sym g))

-- the trimmed text of an element
pub own_given : (e : Element) {t : Text} → t ≡ (own_text e or []) → (length t ≢ 0) → given (own_text e) ≡ true
own_given e {t} h k = by (trim e.text) h
  where
    by : (u : Text) → t ≡ (non_empty u or []) → given (non_empty u) ≡ true
    by [] i = absurd (k (ap length i))
    by (b ∷ u) i = refl

pub own_missing : (e : Element) {t : Text} → t ≡ (own_text e or []) → length t ≡ 0 → given (own_text e) ≡ false
own_missing e {t} h k = by (trim e.text) h
  where
    by : (u : Text) → t ≡ (non_empty u or []) → given (non_empty u) ≡ false
    by [] i = refl
    by (b ∷ u) i = let z : length t ≡ suc (length u) = ap length i in absurd (omega arith)

-- ---- a section of the root

pub starts_same : {s n : Text} {l k : List Element} {m : ℕ} {r : Option Place} → k ≡ l → Starts s n l m r → Starts s n k m r
starts_same e h = record { is = e ∙ h.is; on = h.on }

pub picks_same : {s n : Text} {w : Element → Bool} {l k : List Element} {m : ℕ} {r : Option Place} → k ≡ l → Picks s n w l m r → Picks s n w k m r
picks_same {w = w} e h = record { is = ap (keep w) e ∙ h.is; there = h.there }
