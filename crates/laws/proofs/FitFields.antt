-- The periods and the exceptions that are read from the texts of an element fit. Assumes nothing.
use Rattle.std.specs.Prelude.{eqb}
use Rattle.std.specs.Prelude.{Some}
use Rattle.definition.specs.Base.{◌>>=◌, ◌or◌, keep}
use Rattle.definition.specs.Ascii.{bytes}
use Rattle.definition.specs.Tree.{Element, child, all_in}
use Rattle.definition.specs.Format.{earlier}
use Rattle.definition.specs.Recurrence.{recurrence_days, days_of}
use Rattle.definition.specs.Calendar.{working_time, periods_of, exception_on, day_type, week_days, recurring, exceptions_of}
use Rattle.laws.specs.Each.{Each, each_append}
use Rattle.laws.specs.Fields.{IsPeriod, InYears}
use Rattle.laws.specs.FitRecords.{ArePeriods}
use Rattle.laws.specs.FitLists.{Perhaps, there, perhaps_bind, each_present, rising_none, periods_rising}
use Rattle.laws.specs.FitFields.{each_map_any, working_time_lem, IsException, days_of_lem, rule_of_lem, rule_days_lem}

-- ---- times

pub periods_of_lem : (e : Element) → ArePeriods (periods_of e)
unfolding periods_of
periods_of_lem e =
    periods_rising (each_present (each_map_any working_time working_time_lem (all_in (child e (bytes "WorkingTimes")) (bytes "WorkingTime")))) (rising_none earlier IsPeriod)

-- ---- exceptions

pub recurrence_days_lem : (x : Element) → Perhaps (Each InYears) (recurrence_days x)
unfolding recurrence_days
recurrence_days_lem x = perhaps_bind (rule_of_lem x) (λ r h. there (rule_days_lem r h))

pub exceptions_of_lem : (e : Element) → Each IsException (exceptions_of e)
unfolding exceptions_of
exceptions_of_lem e =
    each_append
    (each_map_any (λ w. exception_on w (days_of w)) (λ w. record { days = days_of_lem w; periods = periods_of_lem w }) (keep (λ w. eqb (day_type w or 1) 0) (week_days e)))
    (each_present
    (each_map_any (λ x. recurrence_days x >>= λ days. Some (exception_on x days))
    (λ x. perhaps_bind (recurrence_days_lem x) (λ days h. there (record { days = h; periods = periods_of_lem x }))) (recurring e)))
