-- The calendars that the definition makes of a tree fit, by what a text is. Assumes nothing.
use Rattle.std.specs.Prelude.{if◌then◌else◌, ◌≡◌, Bool, true, false, ◌&&◌, ℕ, ◌≤◌, ◌<◌, length, set}
use Rattle.std.proofs.Math.Path.{refl}
use Rattle.std.proofs.Common.{sym, ◌∙◌, subst, arith, ltb-true, length-set}
use Rattle.std.proofs.Math.Bool.{not}
use mathlib.Core.List.{List, [], ◌∷◌, append-nil}
use Rattle.std.specs.Prelude.{Option, Some, None}
use Rattle.std.proofs.Math.Dec.{ltb}
use Rattle.definition.specs.Base.{◌>>=◌, ◌or◌, every?, same}
use Rattle.definition.specs.Ascii.{bytes}
use Rattle.definition.specs.Text.{Text}
use Rattle.definition.specs.Format.{Period, rises, earlier}
use Rattle.definition.specs.Tree.{Element}
use Rattle.definition.specs.Field.{text_in, yes_in}
use Rattle.definition.specs.Model.{Calendar}
use Rattle.definition.specs.Calendar.{free, is_empty, elapsed_name, default_calendar, elapsed_calendar, place_of, week_by, Exception, works, days_off, days_on, days_with_hours, by_date, Named, with_uid, name_of, base_of, main_calendar}
use Rattle.laws.specs.Bools.{both}
use Rattle.laws.specs.Each.{Each, empty, next, each_replicate}
use Rattle.laws.specs.Fields.{IsPeriod, InYears}
use Rattle.laws.specs.FitRecords.{ArePeriods, IsDay, FitsCalendarBy}
use Rattle.laws.specs.FitLists.{each_keep, each_map, Perhaps, there, perhaps_or, perhaps_else, perhaps_bind, perhaps_any, each_first, rising_none}
use Rattle.laws.specs.FitTrees.{Texts}
use Rattle.laws.specs.FitNames.{free_shape}
use Rattle.laws.specs.FitFields.{IsException}

-- ---- texts

pub ascii : (s : Text) → every? (λ b. ltb b 128) s ≡ true → Each (λ b. b < 128) s
unfolding every?
ascii [] h = empty
ascii (b ∷ s) h = let (p, q) = both (ltb b 128) (every? (λ b. ltb b 128) s) h in next (ltb-true b 128 p) (ascii s q)

module _ {S T : Text → Type 0} (texts : Texts S T) where
  pub text_none : S []
  text_none = texts.plain [] empty (omega arith)

  pub text_is : {s : Text} → S s → T s
  text_is {s} h = subst T (append-nil s) (texts.stars s 0 h (omega arith))

  pub text_free : (names : List Text) (n : Text) → S n → length names ≤ 5000000 → T (free names n)
  text_free names n h m =
      let f = free_shape names n in
      subst T (sym f.is) (texts.stars n f.stars h (omega (arith, f.few)))

-- ---- the week, the hours and the days

pub week_length : (ws : List Element) (week : List Bool) → length (week_by ws week) ≡ length week
unfolding week_by
week_length [] week = refl
week_length (w ∷ ws) week = week_length ws _ ∙ by (place_of w)
  where
    by : (o : Option ℕ) → length ((o >>= λ k. Some (set week k (yes_in w "DayWorking"))) or week) ≡ length week
    by None = refl
    by (Some k) = length-set week k (yes_in w "DayWorking")

pub hours_if : (t : Bool) {l : List Period} → ArePeriods l → ArePeriods (if t then l else [])
hours_if true h = h
hours_if false h = rising_none earlier IsPeriod

pub each_if : {A : Type 0} {P : A → Type 0} (t : Bool) {a b : List A} → Each P a → Each P b → Each P (if t then a else b)
each_if true h k = h
each_if false h k = k

pub off_in : (week : List Bool) (x : Exception) → IsException x → Each InYears (days_off week x)
off_in week x h = each_if x.working empty (each_keep (works week) h.days)

pub on_in : (week : List Bool) (x : Exception) → IsException x → Each InYears (days_on week x)
on_in week x h = each_if (x.working && is_empty x.periods) (each_keep (λ d. not (works week d)) h.days) empty

pub with_hours : (x : Exception) → IsException x → Each IsDay (days_with_hours x)
with_hours x h = each_if (x.working && not (is_empty x.periods)) (each_map (λ d. (d, x.periods)) (λ d k. (k, h.periods)) h.days) empty

-- ---- one calendar

whole_day : ArePeriods ((0, 1440) ∷ [])
unfolding rises
whole_day = record { short = omega arith; each = next {x = (0, 1440)} (omega arith, omega arith) empty; rise = refl }

module _ {S T : Text → Type 0} (texts : Texts S T) where
  pub fit_default : FitsCalendarBy T default_calendar
  unfolding default_calendar every?
  fit_default = (
    text_is texts (texts.plain (bytes "Standard") (ascii (bytes "Standard") refl) (omega arith)),
    (
      refl,
      (
        record { many = refl; each = each_replicate 7 [] (rising_none earlier IsPeriod) },
        (rising_none ltb InYears, (rising_none ltb InYears, rising_none by_date IsDay)),
      ),
    ),
  )

  pub fit_elapsed : FitsCalendarBy T elapsed_calendar
  unfolding elapsed_calendar every?
  fit_elapsed = (
    text_is texts (texts.plain elapsed_name (ascii elapsed_name refl) (omega arith)),
    (
      refl,
      (
        record { many = refl; each = each_replicate 7 ((0, 1440) ∷ []) whole_day },
        (rising_none ltb InYears, (rising_none ltb InYears, rising_none by_date IsDay)),
      ),
    ),
  )

-- ---- all calendars

abbrev pub FitsNamedBy : (Text → Type 0) → Named → Type 0
FitsNamedBy T n = FitsCalendarBy T n.1

pub with_uid_lem : {P : Calendar → Type 0} (u : Text) {built : List Named} → Each (λ (n : Named). P n.1) built → Perhaps P (with_uid u built)
with_uid_lem u h = perhaps_bind (each_first (each_keep (λ (x : Named). same x.0 u) h)) (λ x k. there k)

-- a calendar's name is one of theirs
pub name_of_lem : {T : Text → Type 0} (u : Text) {built : List Named} → Each (λ (n : Named). T n.1.name) built → Perhaps T (name_of built u)
name_of_lem {T} u h = perhaps_bind (with_uid_lem {P = λ c. T c.name} u h) (λ c k. there k)

pub fit_names : (T : Text → Type 0) {built : List Named} → Each (FitsNamedBy T) built → Each (λ (n : Named). T n.1.name) built
fit_names T empty = empty
fit_names T (next {x = n} h hs) = next {x = n} h.0 (fit_names T hs)

module _ {S T : Text → Type 0} (texts : Texts S T) where
  pub fit_base : (e : Element) {built : List Named} → Each (FitsNamedBy T) built → FitsCalendarBy T ((base_of e >>= λ u. with_uid u built) or default_calendar)
  fit_base e h = perhaps_or {P = FitsCalendarBy T} default_calendar (perhaps_any (base_of e) (λ u. with_uid_lem {P = FitsCalendarBy T} u h)) (fit_default texts)

  pub fit_main : (root : Element) {built : List Named} → Each (FitsNamedBy T) built → FitsCalendarBy T (main_calendar root built)
  unfolding main_calendar
  fit_main root h =
      perhaps_or {P = FitsCalendarBy T} default_calendar
      (perhaps_else (perhaps_any (text_in root "CalendarUID") (λ u. with_uid_lem {P = FitsCalendarBy T} u h)) (perhaps_bind (each_first h) (λ x k. there k)))
      (fit_default texts)
