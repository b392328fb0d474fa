-- The calendars that are read fit: the hours of a week, each calendar over its base, and all. Assumes nothing.
use Rattle.std.specs.Prelude.{if◌then◌else◌, ◌++◌, ◌+◌, ◌≤◌, length}
use Rattle.std.proofs.Math.Path.{refl}
use Rattle.std.proofs.Common.{◌∙◌, arith, length-set}
use Rattle.std.proofs.Math.Bool.{not}
use mathlib.Core.List.{List, [], ◌∷◌}
use Rattle.std.proofs.Math.ListN.{length-append}
use Rattle.std.proofs.lemmas.List.{length-map}
use Rattle.definition.specs.Base.{◌>>=◌, ◌or◌, given, keep, every?, some?, same}
use Rattle.definition.specs.Ascii.{bytes}
use Rattle.definition.specs.Text.{Text}
use Rattle.definition.specs.Format.{Period}
use Rattle.definition.specs.Tree.{Element}
use Rattle.definition.specs.Field.{text_in, yes_in}
use Rattle.definition.specs.Model.{Calendar}
use Rattle.definition.specs.Calendar.{free, periods_of, default_calendar, week_days, place_of, week_by, hours_by, days_off, days_on, days_with_hours, calendar_of, Named, with_uid, base_of, renamed, build, calendar_elements, built_calendars, main_calendar}
use Rattle.definition.specs.Task.{context_of, is_elapsed, kept_tasks}
use Rattle.definition.specs.Read.{calendars_of}
use Rattle.laws.specs.Each.{Each, empty, next, each_append}
use Rattle.laws.specs.Formats.{Times}
use Rattle.laws.specs.FitRecords.{ArePeriods, FitsCalendarBy}
use Rattle.laws.specs.FitLists.{each_keep, each_map, each_flat, each_set, there, perhaps_or, perhaps_any, dates_rising, days_rising}
use Rattle.laws.specs.FitTrees.{Holds, Texts, says, holds_calendars}
use Rattle.laws.specs.FitNames.{names_in, added_to, build_length, keep_both}
use Rattle.laws.proofs.FitFields.{periods_of_lem, exceptions_of_lem}
use Rattle.laws.specs.FitCalendars.{ascii, text_free, week_length, hours_if, each_if, off_in, on_in, with_hours, fit_elapsed, FitsNamedBy, fit_base, fit_main}

-- ---- the week, the hours and the days

hours_fit : (ws : List Element) {hours : List (List Period)} → Times ArePeriods 7 hours → Times ArePeriods 7 (hours_by ws hours)
unfolding hours_by
hours_fit [] h = h
hours_fit (w ∷ ws) {hours} h =
    hours_fit ws
    (perhaps_or {P = Times ArePeriods 7} hours
    (perhaps_any (place_of w)
    (λ k.
    let l = if yes_in w "DayWorking" then periods_of w else [] in
    there (record { many = length-set hours k l ∙ h.many; each = each_set k l (hours_if (yes_in w "DayWorking") (periods_of_lem w)) h.each })))
    h)

-- ---- one calendar

module _ {S T : Text → Type 0} (texts : Texts S T) where
  name_in : {e : Element} → Holds S e → S (text_in e "Name" or bytes "Calendar")
  unfolding every?
  name_in h = perhaps_or {P = S} (bytes "Calendar") (says texts h "Name") (texts.plain (bytes "Calendar") (ascii (bytes "Calendar") refl) (omega arith))

  -- a calendar over its base, under a name
  fit_named : (e : Element) (base : Calendar) (n : Text) → T n → FitsCalendarBy T base → FitsCalendarBy T (renamed n (calendar_of e base))
  unfolding calendar_of
  fit_named e base n t (b, (w, (h, (o, (x, s))))) =
      let week = week_by (week_days e) base.week in
      let changes = exceptions_of_lem e in (
        t,
        (
          week_length (week_days e) base.week ∙ w,
          (
            hours_fit (week_days e) h,
            (
              dates_rising (each_flat (days_off week) (off_in week) changes) o,
              (dates_rising (each_flat (days_on week) (on_in week) changes) x, days_rising (each_flat days_with_hours with_hours changes) s),
            ),
          ),
        ),
      )

  pub fit_free : (names : List Text) {e : Element} (base : Calendar) → Holds S e → length names ≤ 5000000 → FitsCalendarBy T base
      → FitsCalendarBy T (renamed (free names (calendar_of e base).name) (calendar_of e base))
  unfolding calendar_of
  fit_free names {e} base h m b =
      fit_named e base (free names (text_in e "Name" or bytes "Calendar")) (text_free texts names (text_in e "Name" or bytes "Calendar") (name_in h) m) b

-- ---- all calendars

module _ {S T : Text → Type 0} (texts : Texts S T) where
  pub fit_added : {built : List Named} {e : Element} → Each (FitsNamedBy T) built → Holds S e → length built ≤ 5000000 → FitsNamedBy T (added_to built e)
  fit_added {built} {e} h k m = fit_free texts (names_in built) ((base_of e >>= λ u. with_uid u built) or default_calendar) k (rw (length-map built (λ (x : Named). x.1.name)) m) (fit_base texts e h)

  pub fit_build : {built : List Named} {es : List Element} → Each (FitsNamedBy T) built → Each (Holds S) es → length built + length es ≤ 5000000
      → Each (FitsNamedBy T) (build built es)
  unfolding build
  fit_build {built} h empty m = h
  fit_build {built} h (next {x = e} {l = es} k ks) m =
      fit_build {built = built ++ (added_to built e ∷ [])} (each_append h (next (fit_added h k (omega arith)) empty)) ks (omega (arith, length-append built (added_to built e ∷ [])))

  pub fit_built : {root : Element} → Holds S root → length (calendar_elements root) ≤ 5000000 → Each (FitsNamedBy T) (built_calendars root)
  unfolding built_calendars
  fit_built {root} h m =
      let es = calendar_elements root in
      let plain = keep (λ e. not (given (base_of e))) es in
      let based = keep (λ e. given (base_of e)) es in
      let n = keep_both (λ e. given (base_of e)) es in
      let k = holds_calendars h in
      fit_build (fit_build empty (each_keep (λ e. not (given (base_of e))) k) (omega arith)) (each_keep (λ e. given (base_of e)) k) (omega (arith, build_length [] plain))

  pub fit_calendars : {root : Element} → Holds S root → length (calendar_elements root) ≤ 5000000 → Each (FitsCalendarBy T) (calendars_of (context_of root))
  unfolding calendars_of context_of
  fit_calendars {root} h m =
      let b = fit_built h m in
      let main = main_calendar root (built_calendars root) in
      each_append
      (next (fit_main texts root b) (each_keep (λ (c : Calendar). not (same c.name main.name)) (each_map (λ (n : Named). n.1) (λ n k. k) b)))
      (each_if (some? is_elapsed (kept_tasks root)) (next (fit_elapsed texts) empty) empty)
