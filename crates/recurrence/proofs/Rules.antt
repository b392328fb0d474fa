-- The rule of an Exception: its numbers held to what can matter, and its days the same. Assumes nothing.
use Rattle.std.specs.Prelude.{if◌then◌else◌}
use Prim.Native.Nat.{ℕ, zero, suc, ◌+◌, ◌/◌, ◌%◌, ◌^◌, ◌≤◌, ◌<◌, min, max}
use native.Mathlib.Omega.{arith}
use native.Mathlib.Decide.{dec_lt}
use mathlib.Core.Path.{◌≡◌, refl, sym, ap, ◌∙◌}
use mathlib.Core.Bool.{Bool, true, false, ◌&&◌}
use mathlib.Core.List.{List, [], ◌∷◌}
use Rattle.std.specs.Prelude.{Option, Some, None}
use Prim.Native.String.{String}
use lib.Dec.{leb, ltb, eqb}
use lib.IntN.{ℤ, pos, negsuc}
use borrow.Author.Tests.{lt-ltb, le-ltb, le-leb, lt-leb, ne_eqb}
use Rattle.definition.specs.Base.{◌>>=◌, ◌or◌, when, within, keep}
use Rattle.definition.specs.Ascii.{bytes}
use Rattle.definition.specs.Bits.{twos}
use Rattle.definition.specs.Date.{Date, year_of, month_of, day_of, sunday_first, first_date, last_date, date_of}
use Rattle.definition.specs.Tree.{Element, child}
use Rattle.definition.specs.Text.{Text}
use Rattle.definition.specs.Field.{text_in, int_in, yes_in, date_in, held}
use Rattle.definition.specs.Recurrence as D
use Rattle.definition.specs.Recurrence.{most_days, century, month_from, type_from, rule_from, is_rule, is_number, item_fits, at_position, nth_in_month, on_weekday, fits, days_of_rule, rule_of, recurrence_days}
use Rattle.definition.specs.declared.Date as Declared
use Rattle.laws.specs.Calendar.{is_day_lem}
use Rattle.date.specs.Scale.{count_of_number}
use Rattle.recurrence.specs.Scale.{InDates, scaled_by, day_date}
use Rattle.recurrence.specs.Meaning.{valid_month, as_rule, sound, meaning, days_by}
use Rattle.recurrence.specs.Element.{capped, held_rule, rule_by, rule_days, RuleRead, pick_of, mask_of, last_by, most_by, judged}
use Rattle.recurrence.specs.declared.scale.Scaled.{Scaled}
use Rattle.laws.specs.Bools.{within_is}
use Rattle.recurrence.proofs.Months.{month_length_lem, sunday_less}
use Rattle.recurrence.proofs.Dates.{date_in_lem}

-- ---- each number, as the code holds it

types : (o : Option ℤ) → pick_of 7 7 1 o % 7 ≡ type_from (o or pos 1)
unfolding pick_of
types None = refl
types (Some (pos n)) = by (dec_lt n 7)
  where
    by : Dec (n < 7) → min n 7 % 7 ≡ (if leb n 6 then n else 0)
    by (yes l) = rw (le-leb n 6 (omega arith)) (omega arith)
    by (no g) = rw (lt-leb n 6 (omega arith)) (omega arith)
types (Some (negsuc n)) = refl

periods : (o : Option ℤ) → max 1 (pick_of 1000 1 1 o) ≡ held 1 1000 (o or pos 1)
unfolding pick_of
periods None = refl
periods (Some (pos n)) = refl
periods (Some (negsuc n)) = refl

mosts : (o : Option ℤ) → pick_of most_days 0 1 o ≡ held 0 most_days (o or pos 1)
unfolding pick_of
mosts None = refl
mosts (Some (pos n)) = omega arith
mosts (Some (negsuc n)) = refl

months : (o : Option ℤ) → month_from (pos (pick_of 12 12 0 o)) ≡ month_from (o or pos 0)
unfolding pick_of
months None = refl
months (Some (pos n)) = by (dec_lt n 12)
  where
    by : Dec (n < 12) → when (ltb (min n 12) 12) (min n 12 + 1) ≡ when (ltb n 12) (n + 1)
    by (yes l) = let m : min n 12 ≡ n = omega arith in rw m
    by (no g) = let m : min n 12 ≡ 12 = omega arith in rw (m, le-ltb n 12 (omega arith))
months (Some (negsuc n)) = refl

caps : (most k : ℕ) → k ≤ most → (o : Option ℤ) → pick_of most most k o ≡ capped most (o or pos k)
unfolding pick_of
caps most k h None = omega arith
caps most k h (Some (pos n)) = refl
caps most k h (Some (negsuc n)) = refl

most_comm : (a b : ℕ) → max a b ≡ max b a
most_comm a b = omega arith

-- made of its fields
module _ (x : Element) (from to : Date) where
  pub made : {kind last most period number day item position weekdays step : ℕ} {month : Option ℕ} {b : Bool} {first until : Declared.Date}
      → b ≡ yes_in x "EnteredByOccurrences"
      → first ≡ day_date from
      → kind ≡ pick_of 7 7 1 (int_in x "Type")
      → last ≡ last_by b from to
      → until ≡ day_date last
      → most ≡ most_by b (pick_of most_days 0 1 (int_in x "Occurrences"))
      → step ≡ pick_of 1000 1 1 (int_in x "Period")
      → period ≡ max step 1
      → number ≡ pick_of 12 12 0 (int_in x "Month")
      → month ≡ month_from (pos number)
      → day ≡ pick_of 32 32 1 (int_in x "MonthDay")
      → item ≡ pick_of 10 10 0 (int_in x "MonthItem")
      → position ≡ pick_of 5 5 0 (int_in x "MonthPosition")
      → weekdays ≡ mask_of (int_in x "DaysOfWeek")
      → record { kind = kind % 7; from = first; last = until; most = most; period = period; month = month; day = day; item = item; position = position; weekdays = weekdays } ≡ held_rule (rule_from x from to)
  unfolding rule_from last_by most_by mask_of
  made {step = step} b f k l u m s p n t d i q w = λ j.
      record {
        kind = (ap (λ (v : ℕ). v % 7) k ∙ types (int_in x "Type")) j;
        from = f j;
        last = (u ∙ ap day_date (l ∙ ap (λ (t : Bool). last_by t from to) b)) j;
        most = (m ∙ (λ i. most_by (b i) (mosts (int_in x "Occurrences") i))) j;
        period = (p ∙ most_comm step 1 ∙ ap (max 1) s ∙ periods (int_in x "Period")) j;
        month = (t ∙ ap (λ (v : ℕ). month_from (pos v)) n ∙ months (int_in x "Month")) j;
        day = (d ∙ caps 32 1 (omega arith) (int_in x "MonthDay")) j;
        item = (i ∙ caps 10 0 (omega arith) (int_in x "MonthItem")) j;
        position = (q ∙ caps 5 0 (omega arith) (int_in x "MonthPosition")) j;
        weekdays = w j;
      }

-- ---- what fits does not see

no_item : (n : ℕ) (d : Date) → 10 ≤ n → item_fits (pos n) d ≡ false
unfolding item_fits sunday_first
no_item n d h =
    rw (ne_eqb n 0 (λ e. omega arith), ne_eqb n 1 (λ e. omega arith), ne_eqb n 2 (λ e. omega arith))
    (ne_eqb n (sunday_first d + 3) (λ e. omega arith))

below_item : (n : ℕ) (d : Date) → item_fits (negsuc n) d ≡ false
unfolding item_fits
below_item n d = refl

back : (z : ℤ) → valid_month (month_from z) ≡ month_from z
back (pos n) = by (dec_lt n 12)
  where
    by : Dec (n < 12) → valid_month (when (ltb n 12) (n + 1)) ≡ when (ltb n 12) (n + 1)
    by (yes l) = rw (lt-ltb n 12 l, le-leb 1 (n + 1) (omega arith), le-leb (n + 1) 12 (omega arith))
    by (no g) = rw (le-ltb n 12 (omega arith))
back (negsuc n) = refl

days : (z : ℤ) (k : ℕ) → k ≤ 31 → is_number (pos (capped 32 z)) k ≡ is_number z k
days (pos n) k h = by (dec_lt n 32)
  where
    by : Dec (n < 32) → eqb (min n 32) k ≡ eqb n k
    by (yes l) = let m : min n 32 ≡ n = omega arith in rw m
    by (no g) = rw (ne_eqb (min n 32) k (λ e. omega arith), ne_eqb n k (λ e. omega arith))
days (negsuc n) k h = ne_eqb 32 k (λ e. omega arith)

items : (z : ℤ) (d : Date) → item_fits (pos (capped 10 z)) d ≡ item_fits z d
items (pos n) d = by (dec_lt n 10)
  where
    by : Dec (n < 10) → item_fits (pos (min n 10)) d ≡ item_fits (pos n) d
    by (yes l) = let m : min n 10 ≡ n = omega arith in rw m
    by (no g) =
        let m : min n 10 ≡ 10 = omega arith in
        rw (m, no_item 10 d (omega arith), no_item n d (omega arith))
items (negsuc n) d = no_item 10 d (omega arith) ∙ sym (below_item n d)

positions : (z : ℤ) (l : List Date) → at_position (pos (capped 5 z)) l ≡ at_position z l
positions (pos n) l = by (dec_lt n 5)
  where
    by : Dec (n < 5) → at_position (pos (min n 5)) l ≡ at_position (pos n) l
    by (yes h) = let m : min n 5 ≡ n = omega arith in rw m
    by (no g) =
        let m : min n 5 ≡ 5 = omega arith in
        rw (m, ne_eqb n 4 (λ e. omega arith), le-ltb n 4 (omega arith))
positions (negsuc n) l = refl

-- the low bits are all that seven weekdays see
low : (v k : ℕ) → k < 7 → v % 128 / 2 ^ k % 2 ≡ v / 2 ^ k % 2
low v zero h = omega arith
low v (suc zero) h = omega arith
low v (suc (suc zero)) h = omega arith
low v (suc (suc (suc zero))) h = omega arith
low v (suc (suc (suc (suc zero)))) h = omega arith
low v (suc (suc (suc (suc (suc zero))))) h = omega arith
low v (suc (suc (suc (suc (suc (suc zero)))))) h = omega arith
low v (suc (suc (suc (suc (suc (suc (suc k))))))) h = absurd (omega arith)

-- ---- rules alike

keep_same : (p q : Date → Bool) → ((d : Date) → p d ≡ q d) → (l : List Date) → keep p l ≡ keep q l
unfolding keep
keep_same p q e [] = refl
keep_same p q e (d ∷ l) = rw (e d, keep_same p q e l)

nth_same : (i j p q : ℤ) → ((d : Date) → item_fits i d ≡ item_fits j d) → ((l : List Date) → at_position p l ≡ at_position q l) → (y m : ℕ) → nth_in_month y m i p ≡ nth_in_month y m j q
unfolding nth_in_month
nth_same i j p q e f y m = rw (keep_same (item_fits i) (item_fits j) e, f)

-- what fits sees of a rule
record Alike (a r : D.Rule) : Type 0 where
  type : a.type ≡ r.type
  from : a.from ≡ r.from
  last : a.last ≡ r.last
  most : a.most ≡ r.most
  period : a.period ≡ r.period
  month : a.month ≡ r.month
  day : (d : Date) → is_number a.day (day_of d) ≡ is_number r.day (day_of d)
  nth : (y m : ℕ) → nth_in_month y m a.item a.position ≡ nth_in_month y m r.item r.position
  weekday : (d : Date) → on_weekday a d ≡ on_weekday r d

fits_same : (a r : D.Rule) → Alike a r → (d : Date) → fits a d ≡ fits r d
unfolding fits
fits_same a r k d = rw (k.type, k.from, k.period, k.month, k.day d, k.nth (year_of d) (month_of d), k.weekday d)

days_same : (a r : D.Rule) → Alike a r → days_of_rule a ≡ days_of_rule r
unfolding days_of_rule
days_same a r k = rw (keep_same (fits a) (fits r) (fits_same a r k), k.from, k.last, k.most)

rule_same : (a r : D.Rule) → Alike a r → is_rule a ≡ is_rule r
rule_same a r k = rw (k.type, k.month)

-- ---- the rule of an element

period_held : (z : ℤ) → (1 ≤ held 1 1000 z) × (held 1 1000 z ≤ 1000)
period_held (pos n) = omega arith
period_held (negsuc n) = omega arith

-- on the scale
abbrev scaled_of : D.Rule → Scaled
scaled_of m = record { rule = held_rule m; from = m.from; last = m.last }

abbrev days_at : Scaled → Option (List Date)
days_at u = when (sound u && is_rule (as_rule u)) (as_rule u) >>= λ m. Some (days_of_rule m)

scaled_is : (m : D.Rule) → scaled_by (held_rule m) ≡ scaled_of m
scaled_is m = λ i. record { rule = held_rule m; from = count_of_number m.from i; last = count_of_number m.last i }

module _ (x : Element) (from to : Date) where
  alike : Alike (as_rule (scaled_of (rule_from x from to))) (rule_from x from to)
  unfolding rule_from twos
  alike =
      record {
        type = refl;
        from = refl;
        last = refl;
        most = refl;
        period = refl;
        month = back (int_in x "Month" or pos 0);
        day = λ d. days (int_in x "MonthDay" or pos 1) (day_of d) (day_most d);
        nth = nth_same (pos (capped 10 (int_in x "MonthItem" or pos 0))) (int_in x "MonthItem" or pos 0) (pos (capped 5 (int_in x "MonthPosition" or pos 0))) (int_in x "MonthPosition" or pos 0) (items (int_in x "MonthItem" or pos 0)) (positions (int_in x "MonthPosition" or pos 0));
        weekday = λ d. ap (λ (v : ℕ). eqb v 1) (low (twos 64 (int_in x "DaysOfWeek" or pos 0)) (sunday_first d) (sunday_less d));
      }
    where
      day_most : (d : Date) → day_of d ≤ 31
      day_most d = omega (arith, (is_day_lem d).last, month_length_lem (year_of d) (month_of d))

  pub judged_is : judged (held_rule (rule_from x from to)) ≡ rule_by (when (is_rule (rule_from x from to)) (rule_from x from to))
  unfolding judged rule_from
  judged_is = rw (back (int_in x "Month" or pos 0)) (by (is_rule (rule_from x from to)))
    where
      by : (t : Bool) → (if t then Some (held_rule (rule_from x from to)) else None) ≡ rule_by (when t (rule_from x from to))
      by true = refl
      by false = refl

  pub last_most : to ≤ last_date → (b : Bool) → last_by b from to ≤ last_date
  unfolding last_by
  last_most t true = by (within first_date last_date (from + century)) refl
    where
      by : (s : Bool) → within first_date last_date (from + century) ≡ s → (when s (from + century) or to) ≤ last_date
      by true e = (within_is first_date last_date (from + century) e).1
      by false e = t
  last_most t false = t

  module _ (f : InDates from) (t : to ≤ last_date) where
    sounds : sound (scaled_of (rule_from x from to)) ≡ true
    unfolding rule_from last_by
    sounds =
        let p = period_held (int_in x "Period" or pos 1) in
        rw (le-leb first_date from f.low, le-leb from last_date f.high, le-leb _ last_date (last_most t (yes_in x "EnteredByOccurrences")), le-leb 1 _ p.0, le-leb _ 1000 p.1)

    is_one_lem : is_rule (rule_from x from to) ≡ true → (sound (scaled_of (rule_from x from to)) && is_rule (as_rule (scaled_of (rule_from x from to)))) ≡ true
    is_one_lem e = ap (λ (b : Bool). b && is_rule (as_rule (scaled_of (rule_from x from to)))) sounds ∙ rule_same (as_rule (scaled_of (rule_from x from to))) (rule_from x from to) alike ∙ e

    same : is_rule (rule_from x from to) ≡ true → days_by (held_rule (rule_from x from to)) ≡ Some (days_of_rule (rule_from x from to))
    unfolding days_by meaning
    same e =
        ap days_at (scaled_is (rule_from x from to))
        ∙ ap (λ (b : Bool). when b (as_rule (scaled_of (rule_from x from to))) >>= λ m. Some (days_of_rule m)) (is_one_lem e)
        ∙ ap Some (days_same (as_rule (scaled_of (rule_from x from to))) (rule_from x from to) alike)

    pub read_days : rule_days (rule_by (when (is_rule (rule_from x from to)) (rule_from x from to))) ≡ (when (is_rule (rule_from x from to)) (rule_from x from to) >>= λ r. Some (days_of_rule r))
    unfolding rule_days
    read_days = by (is_rule (rule_from x from to)) refl
      where
        by : (t : Bool) → is_rule (rule_from x from to) ≡ t → rule_days (rule_by (when t (rule_from x from to))) ≡ (when t (rule_from x from to) >>= λ r. Some (days_of_rule r))
        by true e = same e
        by false e = refl

-- ---- an Exception

pub field_in : (p : Element) (name : String) (d : Date) → date_in p name ≡ Some d → InDates d
unfolding date_in
field_in p name d e = by (text_in p name) e
  where
    by : (o : Option Text) → (o >>= date_of) ≡ Some d → InDates d
    by None e = let z : ◌≡◌ {A = ℕ} 0 1 = cc in absurd (omega arith)
    by (Some t) e = date_in_lem t d e

-- ToDate, or FromDate where there is none
pub to_most : (p : Element) (d : Date) → d ≤ last_date → (date_in p "ToDate" or d) ≤ last_date
to_most p d h = by (date_in p "ToDate") refl
  where
    by : (o : Option Date) → date_in p "ToDate" ≡ o → (o or d) ≤ last_date
    by None e = h
    by (Some k) e = (field_in p "ToDate" k e).high

module _ (x : Element) where
  pub none_read : child x (bytes "TimePeriod") ≡ None → RuleRead x None
  unfolding rule_of recurrence_days rule_days
  none_read e = record { is = rw e; days = rw e }

  module _ (p : Element) (c : child x (bytes "TimePeriod") ≡ Some p) where
    pub none_from : date_in p "FromDate" ≡ None → RuleRead x None
    unfolding rule_of recurrence_days rule_days
    none_from f = record { is = rw (c, f); days = rw (c, f) }

    pub rule_read : (d : Date) → date_in p "FromDate" ≡ Some d → RuleRead x (judged (held_rule (rule_from x d (date_in p "ToDate" or d))))
    unfolding rule_of recurrence_days
    rule_read d f =
        let i = field_in p "FromDate" d f in
        let k = date_in p "ToDate" or d in
        let r = judged_is x d k in
        record { is = r ∙ rw (c, f); days = ap rule_days r ∙ read_days x d k i (to_most p d i.high) ∙ rw (c, f) }
