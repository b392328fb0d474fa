-- Document 01, "Tried by hand": the cases marked *, as one table, and one theorem that every row holds. Assumes nothing.
use Rattle.std.specs.Prelude.{ℕ, ◌≡◌, refl, true, false, ℤ, pos, negsuc}
use Rattle.definition.specs.declared.Unread.TheVariants.{Absent}
use Rattle.std.specs.Prelude.{Err, Ok}
use Prim.Native.String.{String}
use mathlib.Core.List.{List, [], ◌∷◌, map, flat_map}
use Rattle.std.specs.Prelude.{Option, Some, None}
use Rattle.definition.specs.Base.{present}
use Rattle.definition.specs.Ascii.{bytes}
use Rattle.definition.specs.Date.{date_of}
use Rattle.definition.specs.Number.{Reading}
use Rattle.definition.specs.declared.Duration.{Duration}
use Rattle.definition.specs.Duration.{duration_of}
use Rattle.definition.specs.Time.{time_of}
use Rattle.definition.specs.Tree.{Rec, element}
use Rattle.definition.specs.Recurrence.{recurrence_days}
use Rattle.definition.specs.Model.{Activity, Link}
use Rattle.definition.specs.Task.{context_of, activities}
use Rattle.definition.specs.Link.{links, entered}
use Rattle.definition.specs.Outline.{outline_of}
use Rattle.examples.specs.Open.{opened}

-- ---- trees by their records

abbrev pub element_at_lem : ℕ → String → String → Rec
element_at_lem depth name text = record { depth = depth; name = bytes name; text = bytes text }

-- a Project whose tasks have these levels
abbrev task_at : String → List Rec
task_at l = element_at_lem 3 "Task" "" ∷ element_at_lem 4 "UID" "1" ∷ element_at_lem 4 "OutlineLevel" l ∷ []

abbrev with_levels : List String → List Rec
with_levels ls = element_at_lem 1 "Project" "" ∷ element_at_lem 2 "Tasks" "" ∷ flat_map task_at ls

-- a Project with 480 minutes a day and one task that is its own predecessor, with a lag in format 7
abbrev with_lag : String → List Rec
with_lag tenths =
    element_at_lem 1 "Project" "" ∷ element_at_lem 2 "Tasks" "" ∷ element_at_lem 3 "Task" "" ∷ element_at_lem 4 "UID" "1" ∷ element_at_lem 4 "PredecessorLink" "" ∷
    element_at_lem 5 "PredecessorUID" "1" ∷ element_at_lem 5 "LinkLag" tenths ∷ element_at_lem 5 "LagFormat" "7" ∷ []

-- an Exception from a day to a day, with two fields more and a Type
abbrev pub exception_on : String → String → String → List Rec → List Rec
exception_on type from to fields =
    element_at_lem 1 "Exception" "" ∷ element_at_lem 2 "Type" type ∷ element_at_lem 2 "TimePeriod" "" ∷ element_at_lem 3 "FromDate" from ∷
    element_at_lem 3 "ToDate" to ∷ fields

-- ---- the table

-- what is given, and what is to come out. levels: parents and outline levels. lag: lag and minutes. days: the days of an Exception
pub data Row : Type 0 where
  duration : String → Reading Duration → Row
  time : String → Option ℕ → Row
  levels : List String → List (Option ℕ) → List ℕ → Row
  lag : String → ℤ → Option ℤ → Row
  days : List Rec → List String → Row

-- minutes that were whole, and minutes that were not (document 02, E2)
abbrev pub whole : ℕ → Reading Duration
whole n = Ok (record { minutes = n; whole = true })

abbrev pub part : ℕ → Reading Duration
part n = Ok (record { minutes = n; whole = false })

abbrev parents_of : List Activity → List (Option ℕ)
parents_of = map (λ (a : Activity). a.parent)

abbrev activities_of : List Rec → List Activity
activities_of rs = let x = context_of (element rs) in activities x (entered (links x))

abbrev links_of : List Rec → List Link
links_of rs = links (context_of (element rs))

abbrev pub Holds : Row → Type 0
Holds (duration s r) = duration_of (bytes s) ≡ r
Holds (time s o) = time_of (bytes s) ≡ o
Holds (levels ls ps os) =
    (parents_of (activities_of (with_levels ls)) ≡ ps) ×
    (map (λ (x : ℕ × ℕ). x.1) (outline_of (parents_of (activities_of (with_levels ls)))) ≡ os)
Holds (lag tenths l m) =
    (map (λ (x : Link). x.lag) (links_of (with_lag tenths)) ≡ l ∷ []) × (map (λ (x : Link). x.minutes) (links_of (with_lag tenths)) ≡ m ∷ [])
Holds (days rs ds) = recurrence_days (element rs) ≡ Some (present (map (λ s. date_of (bytes s)) ds))

abbrev pub AllHold : List Row → Type 0
AllHold [] = Unit
AllHold (r ∷ rs) = Holds r × AllHold rs

abbrev pub table : List Row
table =
    duration "PT30S" (part 1) ∷
    duration "PT29S" (part 0) ∷
    duration "PT1H2H" (whole 120) ∷
    duration "PT16666666H40M" (whole 1000000000) ∷
    duration "PT16666666H41M" (Err Absent) ∷
    time "24:00" (Some 1440) ∷
    time "24:01" None ∷
    levels ("1" ∷ "3" ∷ "2" ∷ "1" ∷ []) (None ∷ Some 0 ∷ Some 0 ∷ None ∷ []) (1 ∷ 2 ∷ 2 ∷ 1 ∷ []) ∷
    lag "-15" (pos 0) (Some (negsuc 0)) ∷
    lag "-4801" (negsuc 0) None ∷
    days (exception_on "5" "2026-01-01" "2026-03-31" (element_at_lem 2 "MonthItem" "4" ∷ element_at_lem 2 "MonthPosition" "0" ∷ []))
    ("2026-01-05" ∷ "2026-02-02" ∷ "2026-03-02" ∷ []) ∷
    days (exception_on "6" "2026-01-01" "2026-01-31" (element_at_lem 2 "DaysOfWeek" "2" ∷ element_at_lem 2 "Period" "2" ∷ []))
    ("2026-01-12" ∷ "2026-01-26" ∷ []) ∷
    []

pub tried_by_hand : AllHold table
unfolding opened
tried_by_hand =
    (refl, (refl, (refl, (refl, (refl, (refl, (refl, ((refl, refl), ((refl, refl), ((refl, refl), (refl, (refl, tt))))))))))))
