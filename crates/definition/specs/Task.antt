-- Tasks. Document 01 and the Rust: a kept task is one of the first 100,000 `Task` elements in `Tasks`, has a UID other than `0`, and an OutlineLevel (1 where
-- none is read) of at least 1. Activity row 0 is made from the first of them, and so on. Its id is WBS, else ID, else UID, and gains `*`
-- until no earlier activity has it. Its parent is the nearest earlier one of a lower level. MSPDI: DurationFormat 4, 6, 8, 10, 12 (and 20)
-- are elapsed time, where a day has 1440 minutes and not MinutesPerDay; 32 more means estimated. Document 02, E2: which tasks have a duration that was
-- not whole minutes. Assumes nothing.
use Rattle.std.specs.Prelude.{if◌then◌else◌, ℕ, ◌+◌, ◌-◌, ◌/◌, ◌%◌, Bool, ◌&&◌, ◌||◌, not, List, [], ◌∷◌, ◌++◌, map, length, take, leb, ltb, eqb, ℤ, pos, negsuc, Float}
use Rattle.std.specs.Prelude.{Option, Some, None}
use Prim.Native.String.{String}
use Rattle.std.specs.Float.Ieee.{le, lt}
use Rattle.definition.specs.Base.{◌>>=◌, ◌or◌, ◌or_else◌, when, given, within, keep, find_last, numbered, same}
use Rattle.definition.specs.Ascii.{bytes}
use Rattle.definition.specs.Text.{Text}
use Rattle.definition.specs.Date.{Date}
use Rattle.definition.specs.Number.{half_away, hundredths, between, float, zero_float}
use Rattle.definition.specs.Tree.{Element, child, all_in}
use Rattle.definition.specs.Field.{text_in, yes_in, int_in, number_in, date_in, duration_in, minutes_in, not_whole}
use Rattle.definition.specs.Model.{Calendar, Activity}
use Rattle.definition.specs.Calendar.{Named, built_calendars, main_calendar, name_of, free, elapsed_name}

-- ---- the kept tasks

abbrev pub most_tasks : ℕ
most_tasks = 100000

-- 0 for a number below 0
abbrev pub not_below0 : ℤ → ℕ
not_below0 (pos n) = n
not_below0 (negsuc n) = 0

unfoldable pub level_of : Element → ℕ
level_of t = not_below0 (int_in t "OutlineLevel" or pos 1)

-- a UID other than `0`
abbrev pub own_uid : Element → Bool
own_uid e = given (text_in e "UID") && not (same (text_in e "UID" or []) (bytes "0"))

abbrev pub is_kept : Element → Bool
is_kept t = own_uid t && leb 1 (level_of t)

unfoldable pub kept_tasks : Element → List Element
kept_tasks root = keep is_kept (take most_tasks (all_in (child root (bytes "Tasks")) (bytes "Task")))

-- the row of the last of some elements with a UID
unfoldable pub row_of : List Element → Text → Option ℕ
row_of es u = find_last (λ (x : ℕ × Element). same (text_in x.1 "UID" or []) u) (numbered 0 es) >>= λ x. Some x.0

-- ---- what the whole file says for each task

pub record Context : Type 0 where
  pub per_day : ℕ
  pub built : List Named
  pub main : Calendar
  pub tasks : List Element

-- MinutesPerDay, from 1 to 1440
abbrev pub per_day_from : Float → Option ℕ
per_day_from m = when (between 1 1440 m) (half_away m)

abbrev pub per_day_of : Element → ℕ
per_day_of root = (number_in root "MinutesPerDay" >>= per_day_from) or 480

unfoldable pub context_of : Element → Context
context_of root = record {
  per_day = per_day_of root;
  built = built_calendars root;
  main = main_calendar root (built_calendars root);
  tasks = kept_tasks root;
}

-- a calendar's name, where it is not the main one's
abbrev pub unless_main : Context → Text → Option Text
unless_main x n = when (not (same n x.main.name)) n

-- ---- formats of durations and lags

-- without the mark of an estimate
abbrev pub unmarked : ℕ → ℕ
unmarked code = if within 35 52 code then code - 32 else code

abbrev pub format_of : Element → String → ℕ
format_of e name = unmarked (not_below0 (int_in e name or pos 0))

abbrev pub percent_format : ℕ → Bool
percent_format f = within 19 20 f

abbrev pub elapsed_format : ℕ → Bool
elapsed_format f = eqb (f % 2) 0 && (within 4 12 f || eqb f 20)

unfoldable pub is_elapsed : Element → Bool
is_elapsed t = elapsed_format (format_of t "DurationFormat")

-- ---- durations that were not whole minutes

-- by its Duration, whatever else the task says: a milestone's and an elapsed task's too
unfoldable pub is_fractional : Element → Bool
is_fractional t = not_whole (duration_in t "Duration")

-- ---- an activity

abbrev pub wanted_id : Element → Text
wanted_id e = (text_in e "WBS" or_else text_in e "ID" or_else text_in e "UID") or []

-- the last earlier row of a lower level
unfoldable pub parent_of : List ℕ → ℕ → Option ℕ
parent_of levels l = find_last (λ (x : ℕ × ℕ). ltb x.1 l) (numbered 0 levels) >>= λ x. Some x.0

-- 1 is as late as possible and has no date; 2 to 7 need theirs
abbrev pub constraint_from : {D : Type 0} → ℕ → Option D → Option (ℕ × Option D)
constraint_from kind None = when (eqb kind 1) (1, None)
constraint_from kind (Some d) = if eqb kind 1 then Some (1, None) else when (within 2 7 kind) (kind, Some d)

abbrev pub constraint_of : Element → Option (ℕ × Option Date)
constraint_of t = constraint_from (not_below0 (int_in t "ConstraintType" or pos 0)) (date_in t "ConstraintDate")

-- MSPDI's task types: 0 fixed units, 1 fixed duration, 2 fixed work
abbrev pub duration_type_from : Option ℤ → ℕ
duration_type_from None = 0
duration_type_from (Some (negsuc n)) = 0
duration_type_from (Some (pos n)) = if eqb n 0 then 2 else if eqb n 2 then 3 else 0

abbrev pub duration_type_of : Element → ℕ
duration_type_of t = duration_type_from (int_in t "Type")

-- minutes in days, a part of a day as a day; and the minutes where they are not whole days
abbrev pub duration_days : ℕ → ℕ → ℤ
duration_days minutes day = pos (minutes / day + (if eqb (minutes % day) 0 then 0 else 1))

abbrev pub duration_minutes : ℕ → ℕ → Option ℤ
duration_minutes minutes day = when (not (eqb (minutes % day) 0)) (pos minutes)

abbrev pub calendar_name_of : Context → Element → Option Text
calendar_name_of x t =
    if is_elapsed t then Some elapsed_name else
    (text_in t "CalendarUID" >>= λ u. when (not (same u (bytes "-1"))) u >>= name_of x.built)

-- begun and not ended
abbrev pub under_way : Element → Bool
under_way t = given (date_in t "ActualStart") && not (given (date_in t "ActualFinish"))

-- the minutes left, of a task that is under way
abbrev pub remaining_of : Element → Option ℤ
remaining_of t = if under_way t then (minutes_in t "RemainingDuration" >>= λ m. Some (pos m)) else None

-- hundredths of PhysicalPercentComplete, above 0 and up to 100
abbrev pub percent_from : Float → Option ℤ
percent_from p = when (lt zero_float p && le p (float 100)) (hundredths p)

abbrev pub percent_of : Element → Option ℤ
percent_of t = number_in t "PhysicalPercentComplete" >>= percent_from

-- from the ids and levels of the activities before it, and whether a kept link enters it
unfoldable pub activity_of : Context → List Text → List ℕ → Bool → Element → Activity
activity_of x ids levels entered t =
    let minutes = minutes_in t "Duration" or 0 in
    let day = if is_elapsed t then 1440 else x.per_day in
    record {
      id = free ids (wanted_id t);
      name = text_in t "Name" or [];
      kind = if yes_in t "Milestone" then (if entered then 2 else 1) else 0;
      duration = duration_days minutes day;
      minutes = duration_minutes minutes day;
      parent = parent_of levels (level_of t);
      notes = text_in t "Notes" or [];
      calendar = calendar_name_of x t >>= unless_main x;
      constraint = constraint_of t;
      deadline = date_in t "Deadline";
      start = date_in t "ActualStart";
      finish = date_in t "ActualFinish";
      percent = percent_of t;
      duration_type = duration_type_of t;
      remaining = remaining_of t;
      uid = text_in t "UID" or [];
    }

-- one after another
unfoldable pub activities_after : Context → (ℕ → Bool) → List Activity → List ℕ → List Element → List Activity
activities_after x entered done levels [] = done
activities_after x entered done levels (t ∷ ts) =
    activities_after x entered
    (done ++ (activity_of x (map (λ (a : Activity). a.id) done) levels (entered (length done)) t ∷ []))
    (levels ++ (level_of t ∷ []))
    ts

unfoldable pub activities : Context → (ℕ → Bool) → List Activity
activities x entered = activities_after x entered [] [] x.tasks
