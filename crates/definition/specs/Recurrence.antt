-- The days of an exception. MSPDI: an Exception has a TimePeriod, and by its Type recurs daily (1), yearly on a day (2) or at a position (3) of
-- a month, monthly on a day (4) or at a position (5), weekly on days of the week (6). Document 01: a day from `from` to `last` that fits
-- its type, the first so many kept. `last` is ToDate (default `from`); by occurrences it is `from` + 36,600 days, or ToDate where that
-- passes 9999. So many: 5,000, or Occurrences (default 1) held to 0 to 5,000. Period is held to 1 to 1,000. Any other Type, a bad `from` or,
-- in 2 and 3, a bad Month gives no rule. A WeekDay of DayType 0 is an exception whose range ends at most 3,660 days after its first day; a
-- reversed range is its first day alone. Assumes nothing.
use Rattle.std.specs.Prelude.{if◌then◌else◌, ℕ, suc, ◌+◌, ◌-◌, ◌*◌, ◌/◌, ◌%◌, ◌^◌, min, Bool, true, false, ◌&&◌, ◌||◌, not, List, [], take, leb, ltb, eqb, ℤ, pos, negsuc}
use Rattle.std.specs.Prelude.{Option, Some, None}
use Rattle.std.specs.Prelude.{slice_get}
use Rattle.definition.specs.Base.{◌>>=◌, ◌or◌, when, given, within, keep, find_last, count}
use Rattle.definition.specs.Ascii.{bytes}
use Rattle.definition.specs.Bits.{twos}
use Rattle.definition.specs.Date.{Date, year_of, month_of, day_of, date_at, month_length, sunday_first, in_years, last_date}
use Rattle.definition.specs.Tree.{Element, child}
use Rattle.definition.specs.Field.{int_in, yes_in, date_in, held}

-- ---- the rule of an exception

pub record Rule : Type 0 where
  pub type : ℕ
  pub from : Date
  pub last : Date
  pub most : ℕ
  pub period : ℕ
  pub month : Option ℕ
  pub day : ℤ
  pub item : ℤ
  pub position : ℤ
  pub weekdays : ℤ

abbrev pub most_days : ℕ
most_days = 5000

-- a century, to which occurrences and weeks reach
abbrev pub century : ℕ
century = 36600

-- MSPDI counts months from 0
abbrev pub month_from : ℤ → Option ℕ
month_from (pos n) = when (ltb n 12) (n + 1)
month_from (negsuc n) = None

-- 1 to 6, and 0 for any other type
abbrev pub type_from : ℤ → ℕ
type_from (pos n) = if leb n 6 then n else 0
type_from (negsuc n) = 0

unfoldable pub rule_from : Element → Date → Date → Rule
rule_from x from to =
    let by_count = yes_in x "EnteredByOccurrences" in
    record {
      type = type_from (int_in x "Type" or pos 1);
      from = from;
      last = if by_count then in_years (from + century) or to else to;
      most = if by_count then held 0 most_days (int_in x "Occurrences" or pos 1) else most_days;
      period = held 1 1000 (int_in x "Period" or pos 1);
      month = month_from (int_in x "Month" or pos 0);
      day = int_in x "MonthDay" or pos 1;
      item = int_in x "MonthItem" or pos 0;
      position = int_in x "MonthPosition" or pos 0;
      weekdays = int_in x "DaysOfWeek" or pos 0;
    }

-- yearly rules need their month
abbrev pub is_rule : Rule → Bool
is_rule r = within 1 6 r.type && (given r.month || not (within 2 3 r.type))

unfoldable pub rule_of : Element → Option Rule
rule_of x =
    child x (bytes "TimePeriod") >>= λ p.
    date_in p "FromDate" >>= λ from.
    let r = rule_from x from (date_in p "ToDate" or from) in
    when (is_rule r) r

-- ---- what fits

-- item 0 is any day, 1 Monday to Friday, 2 the weekend, 3 to 9 Sunday to Saturday
unfoldable pub item_fits : ℤ → Date → Bool
item_fits (negsuc n) d = false
item_fits (pos n) d =
    if eqb n 0 then true else
    if eqb n 1 then within 1 5 (sunday_first d) else
    if eqb n 2 then not (within 1 5 (sunday_first d)) else
    eqb n (sunday_first d + 3)

-- position 0 to 3 counts from the first, 4 is the last
abbrev pub at_position : ℤ → List Date → Option Date
at_position (negsuc n) l = None
at_position (pos n) l = if eqb n 4 then find_last (λ d. true) l else if ltb n 4 then slice_get l n else None

-- the item at the position of a month; December 9999, of the year 19999 as counted here, has no position
unfoldable pub nth_in_month : ℕ → ℕ → ℤ → ℤ → Option Date
nth_in_month y m item position =
    if eqb y 19999 && eqb m 12 then None else at_position position (keep (item_fits item) (count (date_at y m 1) (month_length y m)))

abbrev pub is_date : Option Date → Date → Bool
is_date None d = false
is_date (Some x) d = eqb x d

abbrev pub is_month : Option ℕ → ℕ → Bool
is_month None m = false
is_month (Some x) m = eqb x m

abbrev pub is_number : ℤ → ℕ → Bool
is_number (pos n) m = eqb n m
is_number (negsuc n) m = false

-- a whole number of steps, and how many at most
abbrev pub every_nth : ℕ → ℕ → ℕ → Bool
every_nth step most n = eqb (n % step) 0 && ltb (n / step) most

-- the day of the month, and the item at its position
abbrev pub on_day : Rule → Date → Bool
on_day r d = is_number r.day (day_of d)

abbrev pub on_item : Rule → Date → Bool
on_item r d = is_date (nth_in_month (year_of d) (month_of d) r.item r.position) d

-- in the rule's month of one of the first 201 years
abbrev pub in_month : Rule → Date → Bool
in_month r d = is_month r.month (month_of d) && leb (year_of d) (year_of r.from + 200)

abbrev pub month_count : Date → ℕ
month_count d = year_of d * 12 + month_of d

-- in every Period-th month
abbrev pub in_nth_month : Rule → Date → Bool
in_nth_month r d = every_nth r.period 2400 (month_count d - month_count r.from)

-- on one of the weekdays, bit 0 for Sunday
abbrev pub on_weekday : Rule → Date → Bool
on_weekday r d = eqb (twos 64 r.weekdays / 2 ^ sunday_first d % 2) 1

-- in every Period-th week; weeks begin on the Sunday on or before `from`
abbrev pub in_nth_week : Rule → Date → Bool
in_nth_week r d = eqb ((d - (r.from - sunday_first r.from)) / 7 % r.period) 0

unfoldable pub fits : Rule → Date → Bool
fits r d =
    if eqb r.type 1 then every_nth r.period most_days (d - r.from) else
    if eqb r.type 2 then in_month r d && on_day r d else
    if eqb r.type 3 then in_month r d && on_item r d else
    if eqb r.type 4 then in_nth_month r d && on_day r d else
    if eqb r.type 5 then in_nth_month r d && on_item r d else
    on_weekday r d && (in_nth_week r d && leb d (r.from + century))

unfoldable pub days_of_rule : Rule → List Date
days_of_rule r = take r.most (keep (fits r) (count r.from (suc r.last - r.from)))

-- the days of an Exception; none counts as skipped
unfoldable pub recurrence_days : Element → Option (List Date)
recurrence_days x = rule_of x >>= λ r. Some (days_of_rule r)

-- ---- the old form: a WeekDay of DayType 0

abbrev pub most_exception_days : ℕ
most_exception_days = 3660

unfoldable pub days_of : Element → List Date
days_of w =
    (child w (bytes "TimePeriod") >>= λ p.
    date_in p "FromDate" >>= λ from.
    date_in p "ToDate" >>= λ to.
    Some (keep (λ d. leb d last_date) (count from (suc (min (to - from) most_exception_days))))) or []
