-- What an element says, as this crate holds it: the rule of an Exception, the days of a WeekDay of DayType 0. Assumes nothing: these are
-- definitions.
use Rattle.std.specs.Prelude.{if◌then◌else◌, ℕ, suc, ◌+◌, ◌%◌, min, ◌≡◌, Bool, List, [], ◌∷◌, length, ℤ, pos, negsuc}
use Rattle.recurrence.specs.declared.Range.{Range}
use Rattle.std.specs.Prelude.{Option, Some, None}
use Rattle.definition.specs.Base.{◌or◌, count}
use Rattle.definition.specs.Bits.{twos}
use Rattle.definition.specs.Date.{Date, in_years}
use Rattle.definition.specs.Tree.{Element}
use Rattle.definition.specs.Recurrence as D
use Rattle.definition.specs.Recurrence.{most_days, century, rule_from, rule_of, recurrence_days, days_of, most_exception_days}
use Rattle.date.specs.Scale.{day_count}
use Rattle.recurrence.specs.Scale.{day_date}
use Rattle.recurrence.specs.Meaning.{rules, days_by}
use Rattle.recurrence.specs.declared.Rule.{Rule}

-- ---- the rule of an Exception

-- no day past 31, item past 9 or position past 4 is any, and none below 0 is
abbrev pub capped : ℕ → ℤ → ℕ
capped most (pos n) = min n most
capped most (negsuc n) = most

-- of the weekdays the seven low bits
abbrev pub held_rule : D.Rule → Rule
held_rule m =
    record {
      kind = m.type;
      from = day_date m.from;
      last = day_date m.last;
      most = m.most;
      period = m.period;
      month = m.month;
      day = capped 32 m.day;
      item = capped 10 m.item;
      position = capped 5 m.position;
      weekdays = twos 64 m.weekdays % 128;
    }

abbrev pub rule_by : Option D.Rule → Option Rule
rule_by None = None
rule_by (Some m) = Some (held_rule m)

-- all days of an answer; none: skipped
unfoldable pub rule_days : Option Rule → Option (List Date)
rule_days (Some r) = days_by r
rule_days None = None

-- the definition's rule, and so its days
pub record RuleRead (x : Element) (r : Option Rule) : Type 0 where
  pub is : r ≡ rule_by (rule_of x)
  pub days : rule_days r ≡ recurrence_days x

-- ---- its parts

-- a number held to `most`, with what stands for one below 0 and for a missing one
unfoldable pub pick_of : ℕ → ℕ → ℕ → Option ℤ → ℕ
pick_of most below absent (Some (pos n)) = min n most
pick_of most below absent (Some (negsuc n)) = below
pick_of most below absent None = absent

-- the seven low bits, as two's complement has them
unfoldable pub mask_of : Option ℤ → ℕ
mask_of o = twos 64 (o or pos 0) % 128

-- by occurrences, a century on, if that is a date, and so many; else to the last day, and 5,000
unfoldable pub last_by : Bool → Date → Date → Date
last_by by_count from to = if by_count then in_years (from + century) or to else to

unfoldable pub most_by : Bool → ℕ → ℕ
most_by by_count occurrences = if by_count then occurrences else most_days

unfoldable pub judged : Rule → Option Rule
judged r = if rules r.kind r.month then Some r else None

-- ---- a WeekDay of DayType 0

-- days in a row, by the first and how many they are
abbrev pub range_by : List Date → Option Range
range_by [] = None
range_by (d ∷ l) = Some (record { first = day_date d; count = suc (length l) })

unfoldable pub range_days : Option Range → List Date
range_days (Some r) = count (day_count r.first.0) r.count
range_days None = []

pub record RangeRead (x : Element) (r : Option Range) : Type 0 where
  pub is : r ≡ range_by (days_of x)
  pub days : range_days r ≡ days_of x
