-- The worked examples of docs/RECURRENCE.md. Assumes nothing.
use Prim.Native.String.{String}
use Rattle.std.specs.Prelude.{◌≡◌, refl, List, [], ◌∷◌}
use Rattle.std.specs.Prelude.{None}
use Rattle.definition.specs.Base.{present}
use Rattle.definition.specs.Ascii.{bytes}
use Rattle.definition.specs.Date.{date_of}
use Rattle.definition.specs.Tree.{Rec, element}
use Rattle.definition.specs.Recurrence.{recurrence_days, days_of}
use Rattle.examples.specs.Open.{opened}
use Rattle.examples.specs.Hand.{Row, days, AllHold, element_at_lem, exception_on}

abbrev field : String → String → Rec
field name text = element_at_lem 2 name text

-- types 1, 2 and 4: days by their number
abbrev pub every_days : List Row
every_days =
    days (exception_on "1" "2026-01-30" "2026-02-10" (field "Period" "3" ∷ [])) ("2026-01-30" ∷ "2026-02-02" ∷ "2026-02-05" ∷ "2026-02-08" ∷ []) ∷
    days (exception_on "1" "2026-03-10" "2026-03-01" []) [] ∷
    days (exception_on "1" "9999-12-29" "9999-12-30" (field "EnteredByOccurrences" "1" ∷ field "Occurrences" "5" ∷ []))
    ("9999-12-29" ∷ "9999-12-30" ∷ []) ∷
    days (exception_on "2" "2024-01-01" "2028-12-31" (field "Month" "1" ∷ field "MonthDay" "29" ∷ [])) ("2024-02-29" ∷ "2028-02-29" ∷ []) ∷
    days (exception_on "4" "2026-01-31" "2026-08-31" (field "MonthDay" "31" ∷ []))
    ("2026-01-31" ∷ "2026-03-31" ∷ "2026-05-31" ∷ "2026-07-31" ∷ "2026-08-31" ∷ []) ∷
    []

pub every_days_lem : AllHold every_days
unfolding opened
every_days_lem = (refl, (refl, (refl, (refl, (refl, tt)))))

-- type 5: Fridays
abbrev pub last_fridays : List Row
last_fridays =
    days (exception_on "5" "2026-01-01" "2026-06-30" (field "MonthItem" "8" ∷ field "MonthPosition" "4" ∷ []))
    ("2026-01-30" ∷ "2026-02-27" ∷ "2026-03-27" ∷ "2026-04-24" ∷ "2026-05-29" ∷ "2026-06-26" ∷ []) ∷
    days (exception_on "5" "9999-11-01" "9999-12-31" (field "MonthItem" "8" ∷ field "MonthPosition" "4" ∷ [])) ("9999-11-26" ∷ []) ∷
    []

pub last_fridays_lem : AllHold last_fridays
unfolding opened
last_fridays_lem = (refl, (refl, tt))

-- type 5: weekdays and weekends
abbrev pub weekday_items : List Row
weekday_items =
    days (exception_on "5" "2026-01-01" "2026-04-30" (field "MonthItem" "1" ∷ field "MonthPosition" "0" ∷ []))
    ("2026-01-01" ∷ "2026-02-02" ∷ "2026-03-02" ∷ "2026-04-01" ∷ []) ∷
    days (exception_on "5" "2026-01-01" "2026-04-30" (field "MonthItem" "2" ∷ field "MonthPosition" "4" ∷ []))
    ("2026-01-31" ∷ "2026-02-28" ∷ "2026-03-29" ∷ "2026-04-26" ∷ []) ∷
    []

pub weekday_items_lem : AllHold weekday_items
unfolding opened
weekday_items_lem = (refl, (refl, tt))

-- type 3
abbrev pub third_thursdays : List Row
third_thursdays =
    days (exception_on "3" "2025-11-01" "2026-11-30" (field "Month" "10" ∷ field "MonthItem" "7" ∷ field "MonthPosition" "2" ∷ []))
    ("2025-11-20" ∷ "2026-11-19" ∷ []) ∷
    []

pub third_thursdays_lem : AllHold third_thursdays
unfolding opened
third_thursdays_lem = (refl, tt)

-- type 6
abbrev pub second_weeks : List Row
second_weeks =
    days (exception_on "6" "2026-01-07" "2026-02-06" (field "DaysOfWeek" "42" ∷ field "Period" "2" ∷ []))
    ("2026-01-07" ∷ "2026-01-09" ∷ "2026-01-19" ∷ "2026-01-21" ∷ "2026-01-23" ∷ "2026-02-02" ∷ "2026-02-04" ∷ "2026-02-06" ∷ []) ∷
    []

pub second_weeks_lem : AllHold second_weeks
unfolding opened
second_weeks_lem = (refl, tt)

-- any other type, and a yearly rule with a bad month
pub type_unknown : recurrence_days (element (exception_on "7" "2026-01-30" "2026-02-10" [])) ≡ None
unfolding opened
type_unknown = refl

pub month_unknown : recurrence_days (element (exception_on "2" "2026-01-30" "2026-02-10" (field "Month" "12" ∷ []))) ≡ None
unfolding opened
month_unknown = refl

-- the old form, reversed: its first day alone
pub old_reversed : days_of (element (exception_on "0" "2026-03-10" "2026-03-01" [])) ≡ present (date_of (bytes "2026-03-10") ∷ [])
unfolding opened
old_reversed = refl
