-- The days of a rule, one after the other, and the rule of days in a row. Assumes nothing.
use Rattle.std.specs.Prelude.{if◌then◌else◌}
use Rattle.std.proofs.Common.{◌≡◌, ℕ, zero, suc, ◌+◌, ◌-◌, ◌/◌, ◌%◌, ◌<◌, ◌≤◌, min, max, Bool, true, false, ◌&&◌, eqb, ltb, leb, List, [], ◌∷◌, length, take, pos, sym, refl, ap, ◌∙◌, subst, arith, lt-ltb, leb-true}
use Rattle.std.specs.Prelude.{Option, Some, None, MatchOption, IsSomeAnd}
use Rattle.std.specs.Option.{option_map}
use mathlib.Core.Logic.{◌⊎◌, inl, inr}
use Rattle.definition.specs.Base.{◌>>=◌, ◌or◌, when, within, keep, count}
use Rattle.definition.specs.Ascii.{bytes}
use Rattle.definition.specs.Date.{Date, day_number, first_date, last_date}
use Rattle.definition.specs.declared.Date.{Date as DateIs}
use Rattle.definition.specs.Format.{rises}
use Rattle.definition.specs.Tree.{Element, child}
use Rattle.definition.specs.Field.{date_in}
use Rattle.definition.specs.Calendar.{day_type}
use Rattle.definition.specs.Recurrence as D
use Rattle.definition.specs.Recurrence.{is_rule, fits, days_of_rule, days_of, recurrence_days, rule_of, most_exception_days}
use Rattle.laws.specs.Bools.{within_is, is_within, both}
use Rattle.laws.specs.Each.{Each, empty, next, each_take}
use Rattle.laws.specs.Fields.{InYears, days_day}
use Rattle.laws.specs.Options.{never}
use Rattle.date.specs.Scale.{day_count, count_of_number}
use Rattle.pack.specs.Value.{date_by}
use Rattle.recurrence.proofs.Rules.{field_in}
use Rattle.recurrence.specs.Element.{rule_days, range_by, range_days, RangeRead}
use Rattle.recurrence.specs.Meaning.{as_rule, sound, meaning, days_by, to_come, after, step_by, step_of, said}
use Rattle.recurrence.specs.Scale.{day_date, scaled_by}
use Rattle.recurrence.specs.Sequence.{from_on}
use Rattle.recurrence.specs.declared.Rule.{Rule}
use Rattle.recurrence.specs.declared.Range.{Range}
use Rattle.recurrence.specs.declared.Cursor.{Cursor}
use Rattle.recurrence.specs.declared.Step.{Step}
use Rattle.recurrence.specs.declared.Step.TheVariants.{Day, Done, Skipped}
use Rattle.calendar_days.specs.declared.exceptions.Days.{Days}
use Rattle.calendar_days.specs.Exceptions.{Item, old_days, days_at, days_in, daily, coming, coming_by, days_left}
use Rattle.calendar_days.proofs.Runs.{each_count, each_kept, kept_length, count_length, rises_count, rises_keep, rises_take, first_run}

-- ---- the days to come

come_years : (r : Rule) (c : Cursor) → Each InYears (coming r c)
unfolding to_come meaning
come_years r c = by_sound (sound (scaled_by r) && is_rule (as_rule (scaled_by r))) refl
  where
    m : D.Rule
    m = as_rule (scaled_by r)

    by_sound : (t : Bool) → (sound (scaled_by r) && is_rule (as_rule (scaled_by r))) ≡ t
        → Each InYears ((when t m >>= λ m. Some (take c.left (from_on (fits m) m.last (max m.from (day_count c.at.0))))) or [])
    by_sound false e = empty
    by_sound true e =
        let (s, k) = both (sound (scaled_by r)) (is_rule m) e in
        let (a, b) = both (within first_date last_date m.from) (leb m.last last_date && within 1 1000 m.period) s in
        let (l, z) = both (leb m.last last_date) (within 1 1000 m.period) b in
        let low = within_is first_date last_date m.from a in
        let high = leb-true m.last last_date l in
        let at = max m.from (day_count c.at.0) in
        each_take c.left (each_kept (fits m) (λ k u t. u) (each_count at (suc m.last - at) (λ k u v. (omega arith, omega arith))))

module _ (r : Rule) (c : Cursor) {s : Step} (h : (s ≡ step_of r c) × (said r s ≡ to_come r c)) where
  next_day : {d : DateIs} {c' : Cursor} → s ≡ Day d c' → coming r c ≡ date_by d.0 ∷ coming r c'
  unfolding step_of said
  next_day {d} {c'} e = by_come (to_come r c) refl (come_years r c)
    where
      by_come : (o : Option (List Date)) → to_come r c ≡ o → Each InYears (o or []) → coming r c ≡ date_by d.0 ∷ coming r c'
      by_come None z y = let w : Day d c' ≡ Skipped = sym e ∙ h.0 ∙ ap (step_by c) z in let n : ◌≡◌ {A = ℕ} 0 1 = cc in absurd (omega arith)
      by_come (Some []) z y = let w : Day d c' ≡ Done = sym e ∙ h.0 ∙ ap (step_by c) z in let n : ◌≡◌ {A = ℕ} 0 1 = cc in absurd (omega arith)
      by_come (Some (x ∷ l)) z (next yx ys) = by_rest (to_come r c') refl
        where
          w : Day d c' ≡ Day (day_date x) (after c x)
          w = sym e ∙ h.0 ∙ ap (step_by c) z

          ed : d ≡ day_date x
          ed = cc

          day : date_by d.0 ≡ x
          day = ap (λ (t : DateIs). date_by t.0) ed ∙ ap (λ (o : Option Date). o or 0) (days_day x yx)

          told : (to_come r c' >>= λ l. Some (day_count d.0 ∷ l)) ≡ Some (x ∷ l)
          told = sym (ap (said r) e) ∙ h.1 ∙ z

          by_rest : (o : Option (List Date)) → to_come r c' ≡ o → coming r c ≡ date_by d.0 ∷ coming r c'
          by_rest None k = never (sym (ap (λ (o : Option (List Date)). o >>= λ l. Some (day_count d.0 ∷ l)) k) ∙ told)
          by_rest (Some l') k =
              let t : Some (day_count d.0 ∷ l') ≡ Some (x ∷ l) = sym (ap (λ (o : Option (List Date)). o >>= λ l. Some (day_count d.0 ∷ l)) k) ∙ told in
              let u : l' ≡ l = cc in
              ap (λ (o : Option (List Date)). o or []) z ∙ ap (λ (t : Date). t ∷ l) (sym day) ∙ ap (λ (t : List Date). date_by d.0 ∷ t) (sym u ∙ sym (ap (λ (o : Option (List Date)). o or []) k))

  no_day : ((d : DateIs) (c' : Cursor) → s ≡ Day d c' → ⊥) → coming r c ≡ []
  unfolding step_of
  no_day n = by_come (to_come r c) refl
    where
      by_come : (o : Option (List Date)) → to_come r c ≡ o → coming r c ≡ []
      by_come None z = ap (λ (o : Option (List Date)). o or []) z
      by_come (Some []) z = ap (λ (o : Option (List Date)). o or []) z
      by_come (Some (x ∷ l)) z = absurd (n (day_date x) (after c x) (h.0 ∙ ap (step_by c) z))

pub from_start : (r : Rule) (c : Cursor) → to_come r c ≡ days_by r → coming r c ≡ days_in (Some r)
unfolding days_in rule_days
from_start r c e = ap (λ (o : Option (List Date)). o or []) e

pub mapped : {A B : Type 0} (f : A → B) (o : Option A) (r : Option B) → MatchOption o (r ≡ None) (λ x. IsSomeAnd r (λ y. y ≡ f x)) → r ≡ option_map f o
mapped f None r h = h
mapped f (Some x) (Some y) h = ap Some h
mapped f (Some x) None h = absurd h

-- an iterator over a rule's days that is begun
pub begun : {φ : Rule → Rule × Cursor → Type 0} (o : Option Rule) (r : Option (Rule × Cursor)) → MatchOption o (r ≡ None) (λ x. IsSomeAnd r (φ x)) → ((x : Rule) (y : Rule × Cursor) → φ x y → coming y.0 y.1 ≡ days_in (Some x)) → coming_by r ≡ days_in o
unfolding coming_by days_in rule_days
begun None r h k = rw h
begun (Some x) (Some y) h k = k x y h
begun (Some x) None h k = absurd h

pub no_rule : days_in None ≡ []
unfolding days_in rule_days
no_rule = refl

-- ---- an iterator over the days of a rule

pub none_left : (d : Days) → d.left ≡ None → days_left d ≡ []
unfolding coming_by
none_left d e = rw e

pub some_left : (d : Days) {r : Rule} {c : Cursor} → d.left ≡ Some (r, c) → days_left d ≡ coming r c
unfolding coming_by
some_left d e = rw e

no_done : (d : DateIs) (c' : Cursor) → Done ≡ Day d c' → ⊥
no_done d c' e = let n : ◌≡◌ {A = ℕ} 0 1 = cc in omega arith

no_skipped : (d : DateIs) (c' : Cursor) → Skipped ≡ Day d c' → ⊥
no_skipped d c' e = let n : ◌≡◌ {A = ℕ} 0 1 = cc in omega arith

-- its next day, or none
module _ (d : Days) {r : Rule} {c : Cursor} (is : d.left ≡ Some (r, c)) {s : Step} (h : (s ≡ step_of r c) × (said r s ≡ to_come r c)) where
  pub day_left : (after : Days) {day : DateIs} {c' : Cursor} → s ≡ Day day c' → after.left ≡ Some (r, c') → days_left d ≡ date_by day.0 ∷ days_left after
  day_left after {day} e k = some_left d is ∙ next_day r c h e ∙ ap (λ (l : List Date). date_by day.0 ∷ l) (sym (some_left after k))

  pub done_left : (s ≡ Done) ⊎ (s ≡ Skipped) → days_left d ≡ []
  done_left (inl e) = some_left d is ∙ no_day r c h (λ day c' k. no_done day c' (sym e ∙ k))
  done_left (inr e) = some_left d is ∙ no_day r c h (λ day c' k. no_skipped day c' (sym e ∙ k))

-- each is a date
years_left : (o : Option (Rule × Cursor)) → Each InYears (coming_by o)
unfolding coming_by
years_left None = empty
years_left (Some (r, c)) = come_years r c

pub year_left : (d : Days) {x : Date} {l : List Date} → days_left d ≡ x ∷ l → InYears x
year_left d {x} {l} e = first (subst (Each InYears) e (years_left d.left))
  where
    first : Each InYears (x ∷ l) → InYears x
    first (next h k) = h

-- ---- the days of a WeekDay of DayType 0

record Run (l : List Date) : Type 0 where
  years : Each InYears l
  short : length l ≤ 3661
  rise : rises ltb l ≡ true

old_run : (w : Element) → Run (days_of w)
unfolding days_of rises
old_run w = by_child (child w (bytes "TimePeriod"))
  where
    none_run : Run []
    none_run = record { years = empty; short = omega arith; rise = refl }

    by_dates : (p : Element) (f t : Option Date) → date_in p "FromDate" ≡ f → Run ((f >>= λ from. t >>= λ to. Some (keep (λ d. leb d last_date) (count from (suc (min (to - from) most_exception_days))))) or [])
    by_dates p None t e = none_run
    by_dates p (Some a) None e = none_run
    by_dates p (Some a) (Some b) e =
        let n = suc (min (b - a) most_exception_days) in
        let i = field_in p "FromDate" a e in
        record {
          years = each_kept {P = λ k. a ≤ k} (λ d. leb d last_date) (λ k u t. (omega (arith, i.low), leb-true k last_date t)) (each_count a n (λ k u v. u));
          short = omega (arith, kept_length (λ d. leb d last_date) (count a n), count_length a n);
          rise = rises_keep (λ d. leb d last_date) (count a n) (rises_count a n);
        }

    by_child : (o : Option Element) → Run ((o >>= λ p. date_in p "FromDate" >>= λ from. date_in p "ToDate" >>= λ to. Some (keep (λ d. leb d last_date) (count from (suc (min (to - from) most_exception_days))))) or [])
    by_child None = none_run
    by_child (Some p) = by_dates p (date_in p "FromDate") (date_in p "ToDate") refl

-- ---- days in a row as a rule

last_day : day_count (pos 2932896) ≡ last_date
unfolding day_number
last_day = count_of_number last_date

each_last : {P : Date → Type 0} (a n : ℕ) → Each P (count a (suc n)) → P (a + n)
unfolding count
each_last {P} a zero (next h e) = let z : a ≡ a + 0 = omega arith in subst P z h
each_last {P} a (suc n) (next h e) = let z : suc a + n ≡ a + suc n = omega arith in subst P z (each_last (suc a) n e)

each_first : {P : Date → Type 0} (a n : ℕ) → Each P (count a (suc n)) → P a
unfolding count
each_first a n (next h e) = h

no_count : (a : ℕ) → count a 0 ≡ []
unfolding count
no_count a = refl

days_are : (r : Rule) {m : D.Rule} → meaning r ≡ Some m → days_in (Some r) ≡ days_of_rule m
unfolding days_in rule_days days_by
days_are r e = rw e

module _ (r : Range) where
  abbrev from : ℕ
  from = day_count r.first.0

  abbrev rule : D.Rule
  rule = as_rule (scaled_by (daily r))

  daily_fits_lem : (d : ℕ) → from ≤ d → d < from + 3661 → fits rule d ≡ true
  unfolding fits
  daily_fits_lem d l h =
      let x : (d - from) % 1 ≡ 0 = omega arith in
      let y : (d - from) / 1 ≡ d - from = omega arith in
      rw (x, y, lt-ltb (d - from) 5000 (omega arith))

  daily_is : InYears from → meaning (daily r) ≡ Some rule
  unfolding meaning
  daily_is y = rw (last_day, is_within first_date last_date from (y.0, y.1))

  daily_run : (n : ℕ) → r.count ≡ suc n → InYears from → from + n ≤ last_date → n < 3661 → days_of_rule rule ≡ count from r.count
  unfolding days_of_rule
  daily_run n e y l h =
      let k = suc last_date - from - suc n in
      let z : suc last_date - from ≡ suc n + k = omega (arith, y.1) in
      let g = first_run (fits rule) (suc n) k from (λ d a b. daily_fits_lem d a (omega arith)) in
      ap (λ (last : ℕ). take r.count (keep (fits rule) (count from (suc last - from)))) last_day
      ∙ ap (λ (many : ℕ). take r.count (keep (fits rule) (count from many))) z
      ∙ ap (λ (many : ℕ). take many (keep (fits rule) (count from (suc n + k)))) e
      ∙ g ∙ ap (count from) (sym e)

  pub daily_days : (w : Element) → RangeRead w (Some r) → days_in (Some (daily r)) ≡ days_of w
  unfolding range_days
  daily_days w h = by_count r.count refl
    where
      by_count : (n : ℕ) → r.count ≡ n → days_in (Some (daily r)) ≡ days_of w
      by_count zero e =
          let z : [] ≡ days_of w = sym (no_count from) ∙ ap (count from) (sym e) ∙ h.days in
          let u : Some r ≡ None = h.is ∙ ap range_by (sym z) in
          let o : ◌≡◌ {A = ℕ} 0 1 = cc in
          absurd (omega arith)
      by_count (suc n) e =
          let run : Run (count from (suc n)) = subst Run (sym h.days ∙ ap (count from) e) (old_run w) in
          let first = each_first from n run.years in
          let last = each_last from n run.years in
          days_are (daily r) (daily_is first) ∙ daily_run n e first last.1 (omega (arith, run.short, count_length from (suc n))) ∙ h.days

-- the rule of an answer
abbrev pub ruled_by : Option Range → Option Rule
ruled_by a = option_map daily a

pub ruled : (w : Element) {a : Option Range} → RangeRead w a → days_in (ruled_by a) ≡ days_of w
unfolding days_in rule_days range_days
ruled w {a = Some r} h = daily_days r w h
ruled w {a = None} h = h.days

-- ---- the days of an element rise

pub days_rise : (y : Item) → rises ltb (days_at y) ≡ true
unfolding days_at old_days rises recurrence_days days_of_rule
days_rise (true, w) = by_type (eqb (day_type w or 1) 0)
  where
    by_type : (t : Bool) → rises ltb (if t then days_of w else []) ≡ true
    by_type true = (old_run w).rise
    by_type false = refl
days_rise (false, x) = by_rule (rule_of x)
  where
    by_rule : (o : Option D.Rule) → rises ltb ((o >>= λ r. Some (take r.most (keep (fits r) (count r.from (suc r.last - r.from))))) or []) ≡ true
    by_rule None = refl
    by_rule (Some r) = let n = suc r.last - r.from in rises_take r.most _ (rises_keep (fits r) (count r.from n) (rises_count r.from n))
