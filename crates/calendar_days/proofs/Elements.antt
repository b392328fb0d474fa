-- The exceptions of a calendar, found one by one; whether an element names hours. Assumes nothing.
use Rattle.std.proofs.Common.{◌||◌, ◌≡◌, ℕ, ◌+◌, ◌≤◌, Bool, true, false, not, eqb, List, [], ◌∷◌, ◌++◌, length, map, take, drop, length-drop, drop-drop, sym, refl, ap, ◌∙◌, append-nil, arith}
use Rattle.recurrence.specs.declared.Range.{Range}
use Rattle.recurrence.specs.declared.Rule.{Rule}
use Rattle.definition.specs.declared.Period.{Period as PeriodAt}
use Rattle.definition.specs.Answer.{period_meaning}
use Rattle.std.specs.Prelude.{Option, None, Some, is_some, MatchOption}
use Rattle.std.specs.Option.{option_map}
use Rattle.std.proofs.lemmas.List.{length-append, length-map, drop_all, drop-map}
use Rattle.std.proofs.lemmas.Iterator.{YieldsList}
use Rattle.std.proofs.lemmas.Iterator.Consumers.{YieldsList-from_first}
use Rattle.std.specs.Iterator.{YieldsFirstBy}
use Rattle.std.specs.List.{list_any}
use mathlib.Core.List.{flat_map}
use Rattle.definition.specs.Base.{◌or◌, given, some?}
use Rattle.definition.specs.Ascii.{bytes}
use Rattle.definition.specs.Text.{Text}
use Rattle.definition.specs.Tree.{Element, all, all_in, child}
use Rattle.definition.specs.Calendar.{week_days, recurring, periods_of, is_empty, day_type}
use Rattle.tree.specs.declared.element.Children.{Children}
use Rattle.tree.specs.Place.{left, meaning, later, list_of, Past, Starts}
use Rattle.tree.specs.Answer.{found_child, none_child}
use Rattle.tree.specs.Few.{later_few}
use Rattle.tree.specs.declared.element.Element.{Element as Place}
use Rattle.recurrence.specs.Element.{rule_days, RuleRead, RangeRead}
use Rattle.calendar_days.specs.declared.exceptions.Exception.{Exception as Given}
use Rattle.calendar_days.specs.declared.exceptions.Exception.TheVariants.{WeekDay, Recurring}
use Rattle.calendar_days.specs.Exceptions.{Item, item_of, items_of, items_by, items_from, placed, is_old, old_days, days_at, days_in, is_time}
use Rattle.calendar_days.proofs.Changes.{names_hours}
use Rattle.calendar_days.proofs.RuleDays.{ruled_by, ruled}

-- ---- the iterator over a calendar's exceptions

past_all : (s : Text) (m : ℕ) (r : Option Place) → Past s m r → Past s 0 r
unfolding Past
past_all s m (Some p) o = record { tree = o.tree; after = omega arith; inside = o.inside }
past_all s m None o = tt

-- a list that starts behind the first byte is not longer than its tree
list_few : (e : Place) (n : Text) (r : Option Place) → Past e.tree.now (e.at + 1) r → length (list_of n r) ≤ length e.tree.now
unfolding Past list_of
list_few e n None o = omega arith
list_few e n (Some p) o =
    let l : length (later n p) ≤ length (drop p.at p.tree.now) = later_few (drop p.at p.tree.now) 0 n in
    let t : length p.tree.now ≡ length e.tree.now = ap length o.tree in
    omega (arith, l, t, length-drop p.at p.tree.now, o.after, o.inside)

module _ (e : Place) {w x : Option Place} (h : Starts e.tree.now (bytes "WeekDay") (week_days (meaning e)) (e.at + 1) w) (i : Starts e.tree.now (bytes "Exception") (recurring (meaning e)) (e.at + 1) x) where
  pub items_begun : items_by w x ≡ items_of (meaning e)
  unfolding items_by items_of
  items_begun = rw (h.is, i.is)

  pub items_there : Past e.tree.now 0 w × Past e.tree.now 0 x
  items_there = (past_all _ _ w h.on, past_all _ _ x i.on)

  pub items_few : length (items_by w x) ≤ length e.tree.now + length e.tree.now
  unfolding items_by
  items_few =
      omega (arith, list_few e (bytes "WeekDay") w h.on, list_few e (bytes "Exception") x i.on, length-append {A = Item} (map (λ w. (true, w)) (list_of (bytes "WeekDay") w)) (map (λ x. (false, x)) (list_of (bytes "Exception") x)), length-map {B = Item} (list_of (bytes "WeekDay") w) (λ w. (true, w)), length-map {B = Item} (list_of (bytes "Exception") x) (λ x. (false, x)))

-- a WeekDay more
module _ {w : Option Place} (x : Option Place) {w' : Option Place} {e : Place} {m : ℕ} (i : w ≡ Some e) (h : Starts e.tree.now (bytes "WeekDay") (later (bytes "WeekDay") e) m w') where
  pub week_day_more : items_by w x ≡ item_of (WeekDay e) ∷ items_by w' x
  unfolding items_by list_of is_old placed
  week_day_more = rw i (ap (λ (l : List Element). (true, meaning e) ∷ (map (λ w. (true, w)) l ++ map (λ x. (false, x)) (list_of (bytes "Exception") x))) h.is)

  pub week_day_of : (u : Text) → Past u 0 w × Past u 0 x → ((placed (WeekDay e)).tree.now ≡ u) × (Past u 0 w' × Past u 0 x)
  unfolding Past placed
  week_day_of u (o, p) = let a = rw i at o in (a.tree, (rw (sym a.tree) (past_all _ m w' h.on), p))

-- an Exception more, behind the WeekDays
module _ {w x x' : Option Place} {e : Place} {m : ℕ} (n : w ≡ None) (i : x ≡ Some e) (h : Starts e.tree.now (bytes "Exception") (later (bytes "Exception") e) m x') where
  pub recurring_more : items_by w x ≡ item_of (Recurring e) ∷ items_by w x'
  unfolding items_by list_of is_old placed
  recurring_more = rw (n, i) (ap (λ (l : List Element). (false, meaning e) ∷ map (λ x. (false, x)) l) h.is)

  pub recurring_of : (u : Text) → Past u 0 w × Past u 0 x → ((placed (Recurring e)).tree.now ≡ u) × (Past u 0 w × Past u 0 x')
  unfolding Past placed
  recurring_of u (o, p) = let a = rw i at p in (a.tree, (o, rw (sym a.tree) (past_all _ m x' h.on)))

pub no_more : {w x : Option Place} → w ≡ None → x ≡ None → items_by w x ≡ []
unfolding items_by list_of
no_more n i = rw (n, i)

-- ---- one list by itself

-- what stands behind one
unfoldable pub rest_of : Given → List Item
rest_of (WeekDay e) = map (λ e. (true, e)) (later (bytes "WeekDay") e)
rest_of (Recurring e) = map (λ e. (false, e)) (later (bytes "Exception") e)

pub from_one : (x : Given) → items_from (Some x) ≡ item_of x ∷ rest_of x
unfolding items_from list_of placed is_old rest_of
from_one (WeekDay e) = refl
from_one (Recurring e) = refl

pub from_none : {o : Option Given} → o ≡ None → items_from o ≡ []
unfolding items_from
from_none e = ap items_from e

pub week_days_from : (r : Option Place) → items_from (option_map WeekDay r) ≡ map (λ e. (true, e)) (list_of (bytes "WeekDay") r)
unfolding items_from list_of
week_days_from None = refl
week_days_from (Some e) = refl

pub recurring_from : (r : Option Place) → items_from (option_map Recurring r) ≡ map (λ e. (false, e)) (list_of (bytes "Exception") r)
unfolding items_from list_of
recurring_from None = refl
recurring_from (Some e) = refl

-- both lists
pub lists_are : (w x : Option Place) {q r : Option Given} → q ≡ option_map WeekDay w → r ≡ option_map Recurring x → items_by w x ≡ items_from q ++ items_from r
unfolding items_by
lists_are w x i j = rw (i, j, week_days_from w, recurring_from x)

-- the one behind the first k of the next ones of a kind
module _ (o : Bool) (kind : Place → Given) {n : Text} (from : (r : Option Place) → items_from (option_map kind r) ≡ map (λ e. (o, e)) (list_of n r)) where
  pub list_nth : {x : Given} (e : Place) (k : ℕ) {s : Text} {m : ℕ} {r : Option Place} {q : Option Given} → x ≡ kind e → Starts s n (drop k (later n e)) m r → q ≡ option_map kind r
      → items_from q ≡ drop (k + 1) (items_from (Some x))
  unfolding list_of
  list_nth {x} e k {r = r} i h j =
      let a : items_from (Some x) ≡ (o, meaning e) ∷ map (λ e. (o, e)) (later n e) = ap (λ y. items_from (Some y)) i ∙ from (Some e) in
      let c : 1 + k ≡ k + 1 = omega arith in
      ap items_from j ∙ from r ∙ ap (map (λ e. (o, e))) (sym h.is) ∙ sym (drop-map (λ e. (o, e)) k (later n e)) ∙ sym (ap (drop k) (ap (drop 1) a)) ∙ drop-drop k 1 (items_from (Some x)) ∙ ap (λ i. drop i (items_from (Some x))) c

-- of a list that may have none
module _ (x : Option Given) (n : ℕ) where
  pub nth_first : n ≡ 0 → items_from x ≡ drop n (items_from x)
  nth_first i = ap (λ k. drop k (items_from x)) (sym i)

  pub nth_no : x ≡ None → {r : Option Given} → r ≡ None → items_from r ≡ drop n (items_from x)
  nth_no i j = from_none j ∙ sym (ap (drop n) (from_none i) ∙ drop_all n [] (omega arith))

  pub nth_more : {y : Given} (k : ℕ) → n ≡ k + 1 → x ≡ Some y → (r : Option Given) → items_from r ≡ drop (k + 1) (items_from (Some y)) → items_from r ≡ drop n (items_from x)
  nth_more k i j r h = rw (i, j) h

-- the one behind the first i
module _ (l : List Item) {x : Option Given} (i : ℕ) (h : items_from x ≡ drop i l) {B : Type 0} (g : Item → List B) where
  pub nth_none : x ≡ None → flat_map g (take 1 (drop i l)) ≡ []
  unfolding flat_map
  nth_none e = ap (λ (m : List Item). flat_map g (take 1 m)) (sym h ∙ from_none e)

  pub nth_some : {y : Given} → x ≡ Some y → g (item_of y) ≡ flat_map g (take 1 (drop i l))
  unfolding flat_map
  nth_some {y} e = sym (ap (λ (m : List Item). flat_map g (take 1 m)) (sym h ∙ ap items_from e ∙ from_one y) ∙ append-nil (g (item_of y)))

-- ---- working times

pub children_given : (s : Children) → YieldsList (YieldsFirstBy meaning left) meaning s (left s)
children_given s = YieldsList-from_first meaning left (left s) refl

pub any_is : {A : Type 0} (p : A → Bool) (l : List A) → list_any p l ≡ some? p l
unfolding some?
any_is p [] = refl
any_is p (x ∷ l) = ap (λ (t : Bool). p x || t) (any_is p l)

no_time : some? is_time [] ≡ false
unfolding some?
no_time = refl

times_in : Option Element → Bool
times_in o = some? is_time (all_in o (bytes "WorkingTime"))

pub hours_none : (e : Element) → child e (bytes "WorkingTimes") ≡ None → false ≡ not (is_empty (periods_of e))
unfolding times_in some?
hours_none e h = sym no_time ∙ sym (ap times_in h) ∙ names_hours e

pub hours_some : (e : Element) {c : Element} → child e (bytes "WorkingTimes") ≡ Some c → some? is_time (all c (bytes "WorkingTime")) ≡ not (is_empty (periods_of e))
unfolding times_in some?
hours_some e h = sym (ap times_in h) ∙ names_hours e

pub given_some : (o : Option PeriodAt) → given (period_meaning o) ≡ is_some o
unfolding period_meaning
given_some None = refl
given_some (Some t) = refl

-- ---- their days

module _ (x : Element) where
  pub new_days : {r : Option Rule} → RuleRead x r → days_in r ≡ days_at (false, x)
  unfolding days_in days_at
  new_days h = rw h.days

  pub not_old : {t : Bool} → t ≡ eqb (day_type x or 1) 0 → t ≡ false → days_in None ≡ old_days x
  unfolding days_in old_days rule_days
  not_old h k = let z : eqb (day_type x or 1) 0 ≡ false = sym h ∙ k in rw z

  pub are_old : {t : Bool} {a : Option Range} {r : Option Rule} → t ≡ eqb (day_type x or 1) 0 → t ≡ true → RangeRead x a → r ≡ ruled_by a → days_in r ≡ old_days x
  unfolding old_days
  are_old h k i j = let z : eqb (day_type x or 1) 0 ≡ true = sym h ∙ k in rw (j, z) (ruled x i)

pub of_week_day : {y : Given} {e : Place} → y ≡ WeekDay e → old_days (meaning e) ≡ days_at (item_of y)
unfolding days_at is_old placed
of_week_day i = rw i

pub of_recurring : {y : Given} {e : Place} → y ≡ Recurring e → days_at (false, meaning e) ≡ days_at (item_of y)
unfolding days_at is_old placed
of_recurring i = rw i

-- whether a WorkingTimes, if there is one, has a time
pub times_if : (e : Element) {s : Text} {m : ℕ} {o : Option Place} {r : Bool} → Starts s (bytes "WorkingTimes") (all e (bytes "WorkingTimes")) m o
    → MatchOption o (r ≡ false) (λ x. r ≡ some? is_time (all (meaning x) (bytes "WorkingTime"))) → r ≡ not (is_empty (periods_of e))
times_if e {o = None} h k = k ∙ hours_none e (none_child e h refl)
times_if e {o = Some x} h k = k ∙ hours_some e (found_child e h refl)
