-- Walks over a calendar's lists: what is known at a turn, after it, and at each way out. Assumes nothing.
use Rattle.std.specs.Prelude.{if◌then◌else◌}
use mathlib.Core.Path.{◌≡◌, refl, sym, ap, ◌∙◌}
use mathlib.Core.Bool.{Bool, true, false, ◌||◌}
use mathlib.Core.List.{List, ◌∷◌, []}
use Rattle.std.specs.Prelude.{Option, Some, None}
use Rattle.std.specs.Option.{option_eq}
use Rattle.std.proofs.Common.{int_eq, rules, tests}
use Rattle.definition.specs.contracts.DatePartialEq.TheImpl as date_eq
use Rattle.definition.specs.declared.Date.{Date as DayNumber}
use Prim.Native.Nat.{ℕ, suc, ◌+◌, ◌-◌, ◌≤◌, ◌<◌}
use native.Mathlib.Omega.{arith}
use borrow.Author.Tests.{eq-eqb, ne_eqb, eqb-true, eqb-false, ltb-true, ltb-false}
use lib.Dec.{eqb, ltb}
use lib.IntN.{ℤ, pos, negsuc}
use lib.ListN.{drop, drop_of_length-le}
use Rattle.laws.specs.Fields.{day_days}
use Rattle.definition.specs.Base.{given, some?, keep, first, find}
use Rattle.definition.specs.Answer.{day_number_of, date_meaning}
use Rattle.definition.specs.Date.{Date, epoch, day_number, from_days}
use Rattle.definition.specs.Format.{Format, ◌⊗◌, date, dates, Period, periods, earlier}
use Rattle.definition.specs.Calendar.{by_date, hours_on}
use Rattle.bits.specs.Reads.{taken_at}
use Rattle.bits.specs.declared.Place.{Place}
use Rattle.bits.specs.declared.Field.{Field}
use Rattle.model.specs.Passes.{Passes, pass_read}
use Rattle.model.specs.Answers.{date_at, tails_date, next_reads}
use Rattle.model.specs.Splits.{Stands, stands_first, stands_pass, stands_read}
use Rattle.model.specs.Lists.{Ahead, ahead_list, ahead_item, ahead_more}
use Rattle.day_sheet.specs.Days.{exceptions, same_day, is_on, Listed}

-- ---- days by their numbers

eqb_by : (x y a d : ℕ) → (x ≡ y → a ≡ d) → (a ≡ d → x ≡ y) → eqb x y ≡ eqb a d
eqb_by x y a d to from = by_same (eqb a d) refl
  where
    by_same : (t : Bool) → eqb a d ≡ t → eqb x y ≡ t
    by_same true h = eq-eqb x y (from (eqb-true a d h))
    by_same false h = ne_eqb x y (λ e. eqb-false a d h (to e))

-- what `==` answers
pub on_day : {b : Bool} (o : Option DayNumber) (d : DayNumber) → b ≡ option_eq date_eq.eq-value.it o (Some d) → b ≡ is_on (date_meaning o) d.0
unfolding date_meaning
on_day None d e = e
on_day (Some x) d e = e ∙ same x.0 d.0
  where
    same : (y z : ℤ) → int_eq y z ≡ same_day y z
    same (pos a) (pos b) = search (rules, tests)
    same (pos a) (negsuc b) = refl
    same (negsuc a) (pos b) = refl
    same (negsuc a) (negsuc b) = search (rules, tests)

same_number : (a d : Date) → same_day (day_number a) (day_number d) ≡ eqb a d
unfolding day_number
same_number a d = by_epoch (ltb a epoch) (ltb d epoch) refl refl
  where
    differ : (a ≡ d → ⊥) → false ≡ eqb a d
    differ h = sym (ne_eqb a d h)

    by_epoch : (t u : Bool) → ltb a epoch ≡ t → ltb d epoch ≡ u → same_day (day_number a) (day_number d) ≡ eqb a d
    by_epoch true true h k =
        let l = ltb-true a epoch h in
        let m = ltb-true d epoch k in
        rw (h, k) (eqb_by (epoch - suc a) (epoch - suc d) a d (λ e. omega arith) (λ e. omega arith))
    by_epoch true false h k = let l = ltb-true a epoch h in let m = ltb-false d epoch k in rw (h, k) (differ (λ e. omega arith))
    by_epoch false true h k = let l = ltb-false a epoch h in let m = ltb-true d epoch k in rw (h, k) (differ (λ e. omega arith))
    by_epoch false false h k =
        let l = ltb-false a epoch h in
        let m = ltb-false d epoch k in
        rw (h, k) (eqb_by (a - epoch) (d - epoch) a d (λ e. omega arith) (λ e. omega arith))

-- ---- a list searched for a day

-- items that begin with a date
pub record Dated {A : Type 0} (f : Format A) (date_of : A → Date) : Type 0 where
  pub begins : {s : List ℕ} {p : Place} {a : A} → Stands f s p a → Stands date s p (date_of a)

pub dates_dated : Dated date (λ d. d)
dates_dated = record { begins = λ h. h }

pub days_dated : Dated (date ⊗ periods) (λ x. x.0)
days_dated = record { begins = λ h. stands_first periods h }

-- none of the first i is of the day z
pub record Unmet {A : Type 0} (f : Format A) (date_of : A → Date) (s : List ℕ) (z : ℤ) (q₀ : Place) (n : ℕ) (q : Place) (i : ℕ) : Type 0 where
  pub left : (d : Date) → from_days z ≡ Some d → (l : List A) → Ahead f s q₀ n 0 l → Ahead f s q n i l × (find (λ (a : A). eqb (date_of a) d) l ≡ find (λ (a : A). eqb (date_of a) d) (drop i l))

-- the first that is
pub record Met {A : Type 0} (f : Format A) (date_of : A → Date) (s : List ℕ) (d : Date) (q : Place) (l : List A) : Type 0 where
  pub item : A
  pub is : find (λ (a : A). eqb (date_of a) d) l ≡ Some item
  pub stands : Stands f s q item

module _ {A : Type 0} (p : A → Bool) where
  find_here : (x : A) (xs : List A) → p x ≡ true → find p (x ∷ xs) ≡ Some x
  unfolding keep first
  find_here x xs e = rw e

  find_later : (x : A) (xs : List A) → p x ≡ false → find p (x ∷ xs) ≡ find p xs
  unfolding keep first
  find_later x xs e = rw e

  find_none : find p [] ≡ None
  unfolding keep first
  find_none = refl

module _ {A : Type 0} {f : Format A} {date_of : A → Date} (dt : Dated f date_of) {s : List ℕ} {z : ℤ} {n i : ℕ} {q₀ q : Place} (u : Unmet f date_of s z q₀ n q i) where
  module _ {x : Option ℤ × Place} (lt : i < n) (e : x ≡ date_at s q) {b : Bool} (t : b ≡ is_on x.0 z) where
    on_day_lem : (d : Date) → from_days z ≡ Some d → {a : A} → Stands f s q a → b ≡ eqb (date_of a) d
    unfolding day_number_of
    on_day_lem d k {a} h =
        let y : x.0 ≡ Some (day_number (date_of a)) = ap (λ (x : Option ℤ × Place). x.0) e ∙ ap day_number_of (stands_read (dt.begins h)) in
        t ∙ ap (λ (o : Option ℤ). is_on o z) y ∙ ap (same_day (day_number (date_of a))) (sym (day_days z d k).0) ∙ same_number (date_of a) d

    pub met : b ≡ true → (d : Date) → from_days z ≡ Some d → (l : List A) → Ahead f s q₀ n 0 l → Met f date_of s d q l
    met h d k l a =
        let (c, w) = u.left d k l a in
        let y = ahead_item c lt in
        record {
          item = y.item;
          is = w ∙ ap (find (λ (a : A). eqb (date_of a) d)) y.is ∙ find_here (λ (a : A). eqb (date_of a) d) y.item _ (sym (on_day_lem d k y.stands) ∙ h);
          stands = y.stands;
        }

    pub unmet_more : {r : Place} → b ≡ false → Passes f s q r → Unmet f date_of s z q₀ n r (i + 1)
    unmet_more h p = record {
      left = λ d k l a.
          let (c, w) = u.left d k l a in
          let y = ahead_item c lt in
          (ahead_more c lt p, w ∙ ap (find (λ (a : A). eqb (date_of a) d)) y.is ∙ find_later (λ (a : A). eqb (date_of a) d) y.item _ (sym (on_day_lem d k y.stands) ∙ h));
    }

  pub unmet_all : n ≤ i → (d : Date) → from_days z ≡ Some d → (l : List A) → Ahead f s q₀ n 0 l → find (λ (a : A). eqb (date_of a) d) l ≡ None
  unmet_all le d k l a =
      let (c, w) = u.left d k l a in
      w ∙ ap (find (λ (a : A). eqb (date_of a) d)) (drop_of_length-le l {i = i} (omega (arith, c.count))) ∙ find_none (λ (a : A). eqb (date_of a) d)

-- behind a date that was taken
pub date_passed : (s : List ℕ) (q : Place) {x : Option ℤ × Place} → x ≡ date_at s q → Passes date s q x.1
date_passed s q e = pass_read (next_reads tails_date 0 s q (ap (λ (x : Option ℤ × Place). x.1) e))

-- ---- dates

pub dates_ahead : (s : List ℕ) (p : Place) {l : List Date} {x : Field ℕ Place} → x ≡ taken_at s p 32 → Stands dates s p l → Ahead date s x.next x.value 0 l
unfolding dates
dates_ahead s p e h = ahead_list _ s p e h

some_find : (d : Date) (l : List Date) → some? (eqb d) l ≡ given (find (λ (a : Date). eqb a d) l)
unfolding some? keep first
some_find d [] = refl
some_find d (x ∷ l) = by_same (some_find d l) (eqb x d) refl
  where
    turned : eqb d x ≡ eqb x d
    turned = eqb_by d x x d sym sym

    by_same : some? (eqb d) l ≡ given (find (λ (a : Date). eqb a d) l) → (t : Bool) → eqb x d ≡ t → (eqb d x || some? (eqb d) l) ≡ given (first (if eqb x d then x ∷ keep (λ (a : Date). eqb a d) l else keep (λ (a : Date). eqb a d) l))
    by_same ih true h = rw (turned, h)
    by_same ih false h = rw (turned, h) ih

pub date_found : (d : Date) (l : List Date) {x : Date} → find (λ (a : Date). eqb a d) l ≡ Some x → true ≡ some? (eqb d) l
date_found d l e = sym (some_find d l ∙ rw e)

pub date_missing : (d : Date) (l : List Date) → find (λ (a : Date). eqb a d) l ≡ None → false ≡ some? (eqb d) l
date_missing d l e = sym (some_find d l ∙ rw e)

-- ---- exceptions

pub exceptions_ahead : (s : List ℕ) (p : Place) {l : List (Date × List Period)} {x : Field ℕ Place} → x ≡ taken_at s p 32 → Stands exceptions s p l → Ahead (date ⊗ periods) s x.next x.value 0 l
exceptions_ahead s p e h = ahead_list by_date s p e h

pub listed : (s : List ℕ) (p : Place) {l : List Period} → Stands periods s p l → Listed s p l
unfolding periods
listed s p h = ahead_list earlier s p refl h

pub hours_found : {s : List ℕ} {d : Date} {q r : Place} {l : List (Date × List Period)} → Met (date ⊗ periods) (λ x. x.0) s d q l → Passes date s q r → Listed s r (hours_on l d)
hours_found {s} {r = r} m p = rw m.is (listed s r (stands_pass m.stands p))

pub hours_missing : (d : Date) (l : List (Date × List Period)) → find (λ (x : Date × List Period). eqb x.0 d) l ≡ None → hours_on l d ≡ []
hours_missing d l e = rw e
