-- The activities and the links that the definition makes of a tree fit, by what a text is. Assumes nothing.
use Rattle.std.specs.Prelude.{if◌then◌else◌, ◌≡◌, refl, Bool, true, false, not, List, [], ℕ, ◌%◌, ◌^◌, ◌≤◌, ◌<◌, ltb, eqb, ℤ, negsuc, nat_abs, length}
use Rattle.std.proofs.Common.{sym, ap, arith}
use Rattle.std.specs.Prelude.{Option, Some, None}
use Prim.Native.String.{String}
use Rattle.std.proofs.Math.IntN.{pos}
use Rattle.definition.specs.Base.{◌>>=◌, ◌or◌, when, within, every?, same}
use Rattle.definition.specs.Ascii.{bytes}
use Rattle.definition.specs.Text.{Text}
use Rattle.definition.specs.Date.{Date}
use Rattle.definition.specs.Tree.{Element}
use Rattle.definition.specs.Field.{text_in, yes_in, int_in, number_in, minutes_in}
use Rattle.definition.specs.Calendar.{Named, elapsed_name}
use Rattle.definition.specs.Task.{Context, not_below0, level_of, unless_main, is_elapsed, wanted_id, parent_of, constraint_from, duration_type_from, calendar_name_of, under_way, activity_of}
use Rattle.definition.specs.Link.{held_by, cut, tenfold, Lag, working_lag, elapsed_lag, percent_lag, kind_from}
use Rattle.laws.specs.Bools.{Within, within_is}
use Rattle.laws.specs.Each.{Each}
use Rattle.laws.specs.Formats.{IfGiven}
use Rattle.laws.specs.Fields.{InYears}
use Rattle.laws.specs.FitRecords.{IsCount, IsNumber, IsConstraint, IsLagKind, FitsActivityBy}
use Rattle.laws.specs.FitLists.{Perhaps, missing, there, is_given_lem, perhaps_or, perhaps_else, perhaps_when, perhaps_if, perhaps_bind, perhaps_any, perhaps_less, last_row}
use Rattle.laws.specs.FitTrees.{Holds, Texts, says}
use Rattle.laws.specs.FitFields.{date_in_lem}
use Rattle.laws.specs.FitCalendars.{ascii, text_none, text_is, text_free, name_of_lem}
use Rattle.laws.specs.Durations.{minutes_most}
use Rattle.laws.specs.FitAmounts.{percent_number, minutes_number, days_number, rest_number, UpTo, up_to_number, held_up_to, cut_up_to}

-- ---- codes

activity_kind : (a b : Bool) → Within 0 2 (if a then (if b then 2 else 1) else 0)
activity_kind true true = (omega arith, omega arith)
activity_kind true false = (omega arith, omega arith)
activity_kind false b = (omega arith, omega arith)

type_kind : (o : Option ℤ) → Within 0 3 (duration_type_from o)
type_kind None = (omega arith, omega arith)
type_kind (Some (negsuc n)) = (omega arith, omega arith)
type_kind (Some (pos n)) = by (eqb n 0) (eqb n 2)
  where
    by : (t u : Bool) → Within 0 3 (if t then 2 else if u then 3 else 0)
    by true u = (omega arith, omega arith)
    by false true = (omega arith, omega arith)
    by false false = (omega arith, omega arith)

-- ---- a constraint

constraint_in : (k : ℕ) {o : Option Date} → Perhaps InYears o → Perhaps IsConstraint (constraint_from k o)
constraint_in k missing = perhaps_when (eqb k 1) (1, None) (λ e. ((omega arith, omega arith), (refl, tt)))
constraint_in k (there {a = d} h) = by (eqb k 1) refl
  where
    by : (t : Bool) → eqb k 1 ≡ t → Perhaps IsConstraint (if t then Some (1, None) else when (within 2 7 k) (k, Some d))
    by true e = there {a = (1, None)} ((omega arith, omega arith), (refl, tt))
    by false e =
        perhaps_when (within 2 7 k) (k, Some d)
        (λ w. let (p, q) = within_is 2 7 k w in ((omega arith, omega arith), (sym (ap not e), h)))

-- ---- a parent's row

parent_in_lem : (levels : List ℕ) (l : ℕ) → length levels ≤ 2 ^ 32 → Perhaps IsCount (parent_of levels l)
unfolding parent_of
parent_in_lem levels l h = perhaps_less row (last_row (λ (x : ℕ × ℕ). ltb x.1 l) levels)
  where
    row : (n : ℕ) → n < length levels → IsCount n
    row n k = omega arith

-- ---- an activity

module _ {S T : Text → Type 0} (texts : Texts S T) where
  pub text_in_lem : {e : Element} → Holds S e → (n : String) → T (text_in e n or [])
  text_in_lem h n = text_is texts (perhaps_or {P = S} [] (says texts h n) (text_none texts))

  wanted : {e : Element} → Holds S e → S (wanted_id e)
  wanted h = perhaps_or {P = S} [] (perhaps_else (perhaps_else (says texts h "WBS") (says texts h "ID")) (says texts h "UID")) (text_none texts)

  elapsed_name_lem : T elapsed_name
  unfolding every?
  elapsed_name_lem = text_is texts (texts.plain elapsed_name (ascii elapsed_name refl) (omega arith))

  pub unless_main_lem : (x : Context) (n : Text) → T n → Perhaps T (unless_main x n)
  unless_main_lem x n h = perhaps_when (not (same n x.main.name)) n (λ e. h)

  calendar_in_lem : (x : Context) (t : Element) → Each (λ (n : Named). T n.1.name) x.built → Perhaps T (calendar_name_of x t >>= unless_main x)
  calendar_in_lem x t h =
      perhaps_bind
      (perhaps_if (is_elapsed t) (there elapsed_name_lem)
      (perhaps_any (text_in t "CalendarUID") (λ u. perhaps_any (when (not (same u (bytes "-1"))) u) (λ v. name_of_lem {T = T} v h))))
      (unless_main_lem x)

  pub fit_activity : (x : Context) (ids : List Text) (levels : List ℕ) (entered : Bool) {t : Element} → Holds S t → Each (λ (n : Named). T n.1.name) x.built
      → length ids ≤ 5000000 → length levels ≤ 2 ^ 32 → FitsActivityBy T (activity_of x ids levels entered t)
  unfolding activity_of
  fit_activity x ids levels entered {t} h b i l =
      let m = perhaps_or {P = λ n. n ≤ 1000000000} 0 (minutes_most t "Duration") (omega arith) in
      let minutes = minutes_in t "Duration" or 0 in
      let day = if is_elapsed t then 1440 else x.per_day in (
        text_free texts ids (wanted_id t) (wanted h) i,
        (
          text_in_lem h "Name",
          (
            activity_kind (yes_in t "Milestone") entered,
            (
              days_number minutes day m,
              (
                is_given_lem (rest_number minutes day m),
                (
                  is_given_lem (parent_in_lem levels (level_of t) l),
                  (
                    text_in_lem h "Notes",
                    (
                      is_given_lem (calendar_in_lem x t b),
                      (
                        is_given_lem (constraint_in (not_below0 (int_in t "ConstraintType" or pos 0)) (date_in_lem t "ConstraintDate")),
                        (
                          is_given_lem (date_in_lem t "Deadline"),
                          (
                            is_given_lem (date_in_lem t "ActualStart"),
                            (
                              is_given_lem (date_in_lem t "ActualFinish"),
                              (
                                is_given_lem (perhaps_any (number_in t "PhysicalPercentComplete") percent_number),
                                (
                                  type_kind (int_in t "Type"),
                                  (
                                    is_given_lem (perhaps_if (under_way t) (perhaps_bind (minutes_most t "RemainingDuration") (λ n k. there (minutes_number n k))) missing),
                                    text_in_lem h "UID",
                                  ),
                                ),
                              ),
                            ),
                          ),
                        ),
                      ),
                    ),
                  ),
                ),
              ),
            ),
          ),
        ),
      )

-- ---- a link

pub link_kind_lem : (z : ℤ) → Within 0 3 (kind_from z)
link_kind_lem (negsuc n) = (omega arith, omega arith)
link_kind_lem (pos n) = by (eqb n 0) (eqb n 2) (eqb n 3)
  where
    by : (t u v : Bool) → Within 0 3 (if t then 2 else if u then 3 else if v then 1 else 0)
    by true u v = (omega arith, omega arith)
    by false true v = (omega arith, omega arith)
    by false false true = (omega arith, omega arith)
    by false false false = (omega arith, omega arith)

pub record FitsLag (l : Lag) : Type 0 where
  pub days : IsNumber l.days
  pub minutes : IfGiven IsNumber l.minutes
  pub kind : IsLagKind l.kind

module _ (z : ℤ) (h : UpTo 100000000000 z) where
  minutes_in_lem : IsNumber z
  minutes_in_lem = up_to_number 100000000000 z h (omega arith)

  pub working_in : (per_day : ℕ) → FitsLag (working_lag per_day z)
  working_in per_day = by (eqb (nat_abs z % per_day) 0)
    where
      by : (t : Bool) → FitsLag (record { days = if t then cut z per_day else pos 0; minutes = when (not t) z; kind = (0, None) })
      by true =
          record { days = up_to_number 100000000000 (cut z per_day) (cut_up_to 100000000000 z per_day h) (omega arith); minutes = tt; kind = ((omega arith, omega arith), (refl, tt)) }
      by false = record { days = omega arith; minutes = minutes_in_lem; kind = ((omega arith, omega arith), (refl, tt)) }

  pub elapsed_in_lem : FitsLag (elapsed_lag z)
  elapsed_in_lem = record { days = omega arith; minutes = minutes_in_lem; kind = ((omega arith, omega arith), (refl, tt)) }

pub percent_in : (z : ℤ) → FitsLag (percent_lag z)
percent_in z = record {
  days = omega arith;
  minutes = tt;
  kind = ((omega arith, omega arith), (refl, up_to_number 10000000 (held_by 10000000 (tenfold z)) (held_up_to 10000000 (tenfold z)) (omega arith)));
}
