-- The walks: each turn of the search for the next element that counts. Assumes nothing.
use Rattle.std.proofs.Common.{◌≡◌, ℕ, zero, suc, ◌+◌, ◌-◌, ◌<◌, ◌≤◌, Bool, true, false, not, List, ◌∷◌, length, take, length-append, sym, refl, ap, ◌∙◌, arith, []}
use Rattle.std.specs.Prelude.{if◌then◌else◌, Option, Some, None, is_some, IfSome}
use Rattle.std.proofs.lemmas.Bool.{false≢true}
use lib.Seq.{take-nil}
use borrow.Author.Tests.{not-true}
use Rattle.definition.specs.Base.{◌or_else◌, given, keep, first, numbered}
use Rattle.definition.specs.Ascii.{bytes}
use Rattle.definition.specs.Text.{Text}
use Rattle.definition.specs.Tree.{Element, child, all, all_in}
use Rattle.definition.specs.Task.{is_kept, most_tasks, kept_tasks}
use Rattle.definition.specs.Calendar.{base_of, calendar_elements}
use Rattle.laws.specs.Keep.{keep_yes, keep_no}
use Rattle.laws.specs.FitTrees.{keep_most}
use Rattle.tree.specs.Place.{meaning, later, list_of, Within, Past, Starts}
use Rattle.tree.specs.Few.{children_few}
use Rattle.tree.specs.Root.{root_at, in_calendars}
use Rattle.tree.specs.declared.root.Root.{Root}
use Rattle.tree.specs.declared.element.Element.{Element as Place}
use Rattle.rows.specs.Rows.{in_order, calendar_meaning, row_zero}
use Rattle.rows.specs.Turns.{list_at, list_end, past_all, past_in, past_on, past_from, keep_head}
use Rattle.rows.specs.Walks.{kept_by, place_in, room, KeptFrom, is_plain, is_derived, picked_by, Picks, PicksFrom, later_in_order, order_by, order_room, OrdersAfter}

-- ---- the kept tasks

take_more : {A : Type 0} (n : ℕ) (x : A) (l : List A) → 0 < n → take n (x ∷ l) ≡ x ∷ take (n - 1) l
take_more zero x l h = absurd (omega arith)
take_more (suc n) x l h = let e : suc n - 1 ≡ n = omega arith in rw e

-- the first so many, less one
pub take_next : {A : Type 0} (m n : ℕ) {l : List A} {x : A} {k : List A} → n < m → l ≡ x ∷ k → take (m - n) l ≡ x ∷ take (m - (n + 1)) k
take_next {A} m n {l} {x} {k} h e =
    let z : m - n - 1 ≡ m - (n + 1) = omega arith in
    ap (take (m - n)) e ∙ take_more (m - n) x k (omega arith) ∙ ap (λ (i : ℕ). x ∷ take i k) z

pub take_last : {A : Type 0} (m n : ℕ) (l : List A) → m ≤ n → take (m - n) l ≡ []
take_last m n l h = let z : m - n ≡ 0 = omega arith in rw z

pub take_out : {A : Type 0} (n : ℕ) {l : List A} → l ≡ [] → take n l ≡ []
take_out n e = ap (take n) e ∙ take-nil n

-- the search among at most so many: what is left of it
pub record TasksIn (start : Option Place) (most : ℕ) (next : Option Place) (left : ℕ) : Type 0 where
  pub is : keep is_kept (take most (list_of (bytes "Task") start)) ≡ keep is_kept (take left (list_of (bytes "Task") next))
  pub there : (s : Text) → Past s 0 start → Past s 0 next
  pub few : left ≤ most

module _ {start next : Option Place} (most : ℕ) {left : ℕ} (h : TasksIn start most next left) where
  pub kept_none : next ≡ None → KeptFrom start most None
  unfolding kept_by room keep Past
  kept_none e = record { is = h.is ∙ ap (λ (l : List Element). keep is_kept (take left l)) (list_end (bytes "Task") e) ∙ ap (keep is_kept) (take-nil left); there = λ s z. tt; few = omega arith }

  pub kept_out : left ≡ 0 → KeptFrom start most None
  unfolding kept_by room keep Past
  kept_out e = record { is = h.is ∙ rw e; there = λ s z. tt; few = omega arith }

  module _ {x : Place} (e : next ≡ Some x) (k : 0 < left) where
    is_more : keep is_kept (take most (list_of (bytes "Task") start)) ≡ keep is_kept (meaning x ∷ take (left - 1) (later (bytes "Task") x))
    is_more = h.is ∙ ap (λ (l : List Element). keep is_kept (take left l)) (list_at (bytes "Task") e) ∙ ap (keep is_kept) (take_more left (meaning x) (later (bytes "Task") x) k)

    pub kept_here : is_kept (meaning x) ≡ true → KeptFrom start most (Some (x, (left - 1)))
    unfolding kept_by room
    kept_here i = record { is = is_more ∙ keep_yes is_kept (meaning x) _ i; there = λ s z. rw e at (h.there s z); few = omega (arith, h.few, k) }

    pub tasks_later : is_kept (meaning x) ≡ false → {r : Option Place} → Starts x.tree.now (bytes "Task") (later (bytes "Task") x) (x.at + 1) r
        → TasksIn start most r (left - 1)
    tasks_later i {r} j = record {
      is = is_more ∙ keep_no is_kept (meaning x) _ i ∙ ap (λ (l : List Element). keep is_kept (take (left - 1) l)) j.is;
      there = λ s z. past_on r (past_in e (h.there s z)) j.on;
      few = omega (arith, h.few);
    }

pub kept_first : (root : Element) {s : Text} {m : ℕ} {f : Option Place} {r : Option (Place × ℕ)} → Starts s (bytes "Task") (all_in (child root (bytes "Tasks")) (bytes "Task")) m f → KeptFrom f most_tasks r → kept_tasks root ≡ kept_by r
unfolding kept_tasks
kept_first root i h = ap (λ (l : List Element). keep is_kept (take most_tasks l)) i.is ∙ h.is

pub kept_there : {s n : Text} {l : List Element} {left m : ℕ} {f : Option Place} {r : Option (Place × ℕ)} → Starts s n l m f → KeptFrom f left r → Past s 0 (place_in r)
kept_there {s} {f = f} i h = h.there s (past_all s _ f i.on)

pub place_at : {o : Option (Place × ℕ)} {x : Place} {left : ℕ} → o ≡ Some (x, left) → place_in o ≡ Some x
place_at e = rw e

-- ---- elements that pass a test

-- the search from where a list starts: what is left of it
pub record Left (n : Text) (w : Element → Bool) (start e : Option Place) : Type 0 where
  pub is : keep w (list_of n start) ≡ keep w (list_of n e)
  pub on : (s : Text) (m : ℕ) → Past s m start → Past s m e

module _ {n : Text} {w : Element → Bool} {start e : Option Place} (h : Left n w start e) where
  pub picks_none : e ≡ None → PicksFrom n w start None
  unfolding keep picked_by Past
  picks_none i = record { is = h.is ∙ ap (keep w) (list_end n i); there = λ s m k. tt }

  module _ {x : Place} (i : e ≡ Some x) where
    pub picks_here : w (meaning x) ≡ true → PicksFrom n w start (Some x)
    unfolding picked_by
    picks_here j = record { is = h.is ∙ ap (keep w) (list_at n i) ∙ keep_yes w (meaning x) _ j; there = λ s m k. rw i at (h.on s m k) }

    pub left_later : w (meaning x) ≡ false → {r : Option Place} → Starts x.tree.now n (later n x) (x.at + 1) r → Left n w start r
    left_later j {r} k = record {
      is = h.is ∙ ap (keep w) (list_at n i) ∙ keep_no w (meaning x) _ j ∙ ap (keep w) k.is;
      on = λ s m z. past_from r (past_in i (h.on s m z)) k.on;
    }

-- ---- a section

pub section_none : {s n : Text} {o : Option Element} {m : ℕ} → o ≡ None → Starts s n (all_in o n) m None
unfolding list_of Past
section_none e = record { is = rw e; on = tt }

pub section_found : {s n : Text} {o : Option Element} {m : ℕ} {x : Place} {r : Option Place} → o ≡ Some (meaning x) → Within s m x → Starts x.tree.now n (all (meaning x) n) (x.at + 1) r → Starts s n (all_in o n) m r
section_found {r = r} e k h = record { is = rw e h.is; on = past_from r k h.on }

-- ---- the calendars in the order in which they are built

pub none_if : {A : Type 0} (o : Option A) → is_some o ≡ false → o ≡ None
none_if None h = refl
none_if (Some x) h = absurd (false≢true (sym h))

-- how many follow an element: over no base, at most those of the root's tree and those from its position on; over one, these
module _ (s : Text) where
  room_from : (u : Text) (m : ℕ) (f : Option Place) → Past u m f → order_room s f < suc (length s + (suc (length u) - m))
  unfolding order_room Past
  room_from u m None h = omega arith
  room_from u m (Some x) h = by (given (base_of (meaning x)))
    where
      by : (t : Bool) → (if t then suc (length x.tree.now - x.at) else suc (length s + (length x.tree.now - x.at))) < suc (length s + (suc (length u) - m))
      by true = rw h.tree (omega (arith, h.after, h.inside))
      by false = rw h.tree (omega (arith, h.after, h.inside))

  room_over : {u : Text} {m : ℕ} {l : List Element} (f : Option Place) → Picks u (bytes "Calendar") is_derived l m f → order_room s f ≤ suc (length u) - m
  unfolding order_room Past picked_by is_derived
  room_over None h = omega arith
  room_over {l = l} (Some x) h = rw (keep_head is_derived l h.is, h.there.tree) (omega (arith, h.there.after, h.there.inside))

  pub room_next : (x : Place) {l : List Element} {r : Option Place} → given (base_of (meaning x)) ≡ true → Picks x.tree.now (bytes "Calendar") is_derived l (x.at + 1) r → order_room s r < order_room s (Some x)
  unfolding order_room
  room_next x {r = r} g h = rw g (omega (arith, room_over r h))

  pub room_on : (x : Place) (r : Option Place) → given (base_of (meaning x)) ≡ false → order_room s r < suc (length s + (suc (length x.tree.now) - (x.at + 1))) → order_room s r < order_room s (Some x)
  unfolding order_room
  room_on x r g h = rw g (omega (arith, h))

module _ (root : Element) where
  derived_list : (l : List Element) (r : Option Place) → keep is_derived l ≡ picked_by (bytes "Calendar") is_derived r → keep is_derived l ≡ order_by root r
  unfolding picked_by order_by later_in_order is_derived
  derived_list l None h = h
  derived_list l (Some x) h = rw (keep_head is_derived l h) h

  pub after_plain : {s : Text} {f : Option Place} {x : Place} → f ≡ Some x → OrdersAfter s root f (Some x)
  unfolding picked_by order_by later_in_order is_plain
  after_plain {s} {f} {x} e = record {
    is = λ l h.
        let i : keep is_plain l ≡ picked_by (bytes "Calendar") is_plain (Some x) = rw e at h in
        let g : given (base_of (meaning x)) ≡ false = not-true _ (keep_head is_plain l i) in
        rw (i, g);
    there = λ h. rw e at h;
    few = λ u m h. room_from s u m (Some x) (rw e at h);
  }

  pub after_none : {s : Text} (m : ℕ) {f : Option Place} {r : Option Place} → f ≡ None → Picks s (bytes "Calendar") is_derived (calendar_elements root) (m + 1) r → OrdersAfter s root f r
  unfolding picked_by
  after_none {s} m {f} {r} e d = record {
    is = λ l h. let i : keep is_plain l ≡ [] = rw e at h in rw i (derived_list (calendar_elements root) r d.is);
    there = λ h. past_all s (m + 1) r d.there;
    few = λ u k h. omega (arith, room_over s r d);
  }

  pub after_some : {s : Text} (f : Option Place) → is_some f ≡ true → OrdersAfter s root f f
  after_some None h = absurd (false≢true h)
  after_some (Some x) h = after_plain refl

  pub order_first : {s : Text} {m : ℕ} {f r : Option Place} → Picks s (bytes "Calendar") is_plain (calendar_elements root) m f → OrdersAfter s root f r → in_order root ≡ order_by root r
  unfolding in_order is_plain is_derived
  order_first h a = a.is (calendar_elements root) h.is

  module _ (x : Place) where
    pub order_over : {s : Text} {m : ℕ} {r : Option Place} → given (base_of (meaning x)) ≡ true → Picks s (bytes "Calendar") is_derived (later (bytes "Calendar") x) m r → later_in_order root x ≡ order_by root r
    unfolding later_in_order
    order_over {r = r} g h = rw g (derived_list _ r h.is)

    pub order_plain : {s u : Text} {m : ℕ} {f r : Option Place} → given (base_of (meaning x)) ≡ false → Picks s (bytes "Calendar") is_plain (later (bytes "Calendar") x) m f → OrdersAfter u root f r → later_in_order root x ≡ order_by root r
    unfolding later_in_order
    order_plain g h a = rw g (a.is (later (bytes "Calendar") x) h.is)

-- there are at most twice as many as the tree has bytes
pub order_few : (root : Root) → length (in_order (root_at root)) ≤ length root.tree.now + length root.tree.now
unfolding in_order
order_few root =
    let l = calendar_elements (root_at root) in
    let f : length l ≤ length root.tree.now = rw (in_calendars root (bytes "Calendar")) (children_few root.tree.now root.calendars (bytes "Calendar")) in
    omega (arith, length-append (keep (λ e. not (given (base_of e))) l) (keep (λ e. given (base_of e)) l), keep_most (λ e. not (given (base_of e))) l, keep_most (λ e. given (base_of e)) l, f)

-- ---- the main calendar

pub first_row : (root : Element) (c : Option Place) → in_order root ≡ order_by root c → calendar_meaning (row_zero c) ≡ first (numbered 0 (in_order root))
unfolding calendar_meaning order_by numbered first
first_row root None h = rw h
first_row root (Some x) h = rw h

pub row_there : (s : Text) (c : Option Place) → Past s 0 c → IfSome (row_zero c) (λ x. x.1.tree.now ≡ s)
unfolding Past
row_there s None h = tt
row_there s (Some x) h = h.tree

-- that of CalendarUID, else the first
pub or_named : (c : Option (ℕ × Place)) → is_some c ≡ true → (o : Option (ℕ × Element)) → calendar_meaning c ≡ (calendar_meaning c or_else o)
unfolding calendar_meaning
or_named None h o = absurd (false≢true h)
or_named (Some (row, x)) h o = refl

pub or_first_row : {c : Option (ℕ × Place)} → c ≡ None → (o : Option (ℕ × Element)) → o ≡ (calendar_meaning c or_else o)
unfolding calendar_meaning
or_first_row e o = rw e
