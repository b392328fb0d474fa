-- The exceptions of a calendar by its elements: WeekDays, of which those of DayType 0 are exceptions in the old form, or Exceptions. Assumes
-- nothing: these are definitions.
use Rattle.std.specs.Prelude.{if◌then◌else◌, ◌≡◌, Bool, true, false, not, ◌&&◌, List, [], ◌∷◌, ◌++◌, map, pos, ◌==◌}
use Rattle.std.specs.Prelude.{None, Option, Some, MatchOption}
use mathlib.Core.List.{flat_map}
use Rattle.definition.specs.Base.{◌or◌, given, keep}
use Rattle.definition.specs.Ascii.{bytes}
use Rattle.definition.specs.Text.{Text}
use Rattle.definition.specs.Date.{Date}
use Rattle.definition.specs.Format.{Period}
use Rattle.definition.specs.Tree.{Element}
use Rattle.definition.specs.Field.{yes_in}
use Rattle.definition.specs.Recurrence.{recurrence_days, days_of}
use Rattle.definition.specs.Calendar as C
use Rattle.definition.specs.Calendar.{Exception, exception_on, day_type, week_days, recurring, working_time, periods_of, is_empty}
use Rattle.pack.specs.Value.{date_by}
use Rattle.tree.specs.Place.{meaning, list_of, Past}
use Rattle.tree.specs.declared.element.Element.{Element as Place}
use Rattle.recurrence.specs.Element.{rule_days}
use Rattle.recurrence.specs.Meaning.{to_come}
use Rattle.recurrence.specs.declared.Cursor.{Cursor}
use Rattle.recurrence.specs.declared.Rule.{Rule}
use Rattle.recurrence.specs.declared.Range.{Range}
use Rattle.calendar_days.specs.declared.exceptions.Days.{Days}
use Rattle.calendar_days.specs.declared.span.YearDate.{YearDate}
use Rattle.calendar_days.specs.declared.exceptions.Exceptions.{Exceptions}
use Rattle.calendar_days.specs.declared.exceptions.Exception.{Exception as Given}
use Rattle.calendar_days.specs.declared.exceptions.Exception.TheVariants.{WeekDay, Recurring}

-- ---- the elements

-- a WeekDay or an Exception: whether it is of the old form, and the element
abbrev pub Item : Type 0
Item = Bool × Element

unfoldable pub placed : Given → Place
placed (WeekDay e) = e
placed (Recurring e) = e

unfoldable pub is_old : Given → Bool
is_old (WeekDay e) = true
is_old (Recurring e) = false

abbrev pub item_of : Given → Item
item_of x = (is_old x, meaning (placed x))

-- those of a calendar
unfoldable pub items_of : Element → List Item
items_of e = map (λ w. (true, w)) (week_days e) ++ map (λ x. (false, x)) (recurring e)

-- those that are left to an iterator
unfoldable pub items_by : Option Place → Option Place → List Item
items_by w x = map (λ e. (true, e)) (list_of (bytes "WeekDay") w) ++ map (λ e. (false, e)) (list_of (bytes "Exception") x)

abbrev pub items_left : Exceptions → List Item
items_left s = items_by s.week_day s.recurring

-- those of one list, from one of its elements on
unfoldable pub items_from : Option Given → List Item
items_from None = []
items_from (Some (WeekDay e)) = map (λ e. (true, e)) (list_of (bytes "WeekDay") (Some e))
items_from (Some (Recurring e)) = map (λ e. (false, e)) (list_of (bytes "Exception") (Some e))

-- all of them are of a tree
abbrev pub ItemsOf : Exceptions → Text → Type 0
ItemsOf s u = Past u 0 s.week_day × Past u 0 s.recurring

-- a step of the iterator
abbrev pub GivesItems : Exceptions → Option Given → Exceptions → Type 0
GivesItems s r t =
    MatchOption r ((items_left s ≡ []) × (items_left t ≡ [])) (λ x. (items_left s ≡ item_of x ∷ items_left t) × ((u : Text) → ItemsOf s u → ((placed x).tree.now ≡ u) × ItemsOf t u))

-- ---- their days

unfoldable pub old_days : Element → List Date
old_days w = if (day_type w or 1) == 0 then days_of w else []

unfoldable pub days_at : Item → List Date
days_at (true, w) = old_days w
days_at (false, x) = recurrence_days x or []

abbrev pub exception_at : Item → Exception
exception_at y = exception_on y.1 (days_at y)

-- those of a rule, if there is one
unfoldable pub days_in : Option Rule → List Date
days_in r = rule_days r or []

-- days in a row, as a rule
abbrev pub daily : Range → Rule
daily r =
    record {
      kind = 1;
      from = r.first;
      last = record { 0 = pos 2932896 };
      most = r.count;
      period = 1;
      month = None;
      day = 0;
      item = 0;
      position = 0;
      weekdays = 0;
    }

-- the days of a rule that are still to come
abbrev pub coming : Rule → Cursor → List Date
coming r c = to_come r c or []

-- those that are left to an iterator over a rule's days
unfoldable pub coming_by : Option (Rule × Cursor) → List Date
coming_by None = []
coming_by (Some (r, c)) = coming r c

abbrev pub days_left : Days → List Date
days_left d = coming_by d.left

-- a day by its date
abbrev pub day_of : YearDate → Date
day_of d = date_by d.date.0

abbrev pub is_time : Element → Bool
is_time t = given (working_time t)

-- ---- which of them a list wants

-- an element's days are holidays, extra days or days with hours
unfoldable pub such_off : Element → Bool
such_off x = not (yes_in x "DayWorking")

unfoldable pub such_on : Element → Bool
such_on x = yes_in x "DayWorking" && is_empty (periods_of x)

unfoldable pub such_hours : Element → Bool
such_hours x = yes_in x "DayWorking" && not (is_empty (periods_of x))

-- the days of an element, if they are such
unfoldable pub such_days : (Element → Bool) → Item → List Date
such_days such y = if such y.1 then days_at y else []

-- those that count
abbrev pub wanted_days : (Element → Bool) → (Date → Bool) → Item → List Date
wanted_days such test y = keep test (such_days such y)

-- those of a calendar
abbrev pub own_days : (Element → Bool) → (Date → Bool) → Element → List Date
own_days such test e = flat_map (wanted_days such test) (items_of e)

-- the days with hours
unfoldable pub hours_of : Item → List (Date × List Period)
hours_of y = C.days_with_hours (exception_at y)
