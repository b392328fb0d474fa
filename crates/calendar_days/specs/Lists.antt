-- A calendar's lists of days: holidays, extra days and days with hours; those of its base, which stand in a buffer before a place. Assumes nothing.
use Rattle.std.specs.Prelude.{◌≡◌, ℕ, ◌≤◌, Bool, true, ◌&&◌, ◌||◌, ltb, List, [], length, ◌==◌, nat_le, nat_lt}
use Rattle.std.specs.Prelude.{None, Some}
use mathlib.Core.List.{flat_map}
use Rattle.std.specs.Prelude.{Option}
use Rattle.definition.specs.Base.{◌>>=◌, ◌or◌, when}
use Rattle.definition.specs.Bits.{Bits}
use Rattle.definition.specs.Date.{Date}
use Rattle.definition.specs.Tree.{Element}
use Rattle.definition.specs.Format.{Format, ◌⊗◌, dates}
use Rattle.definition.specs.Calendar.{insert_all, by_date, exceptions_of, days_off, days_on, days_with_hours}
use Rattle.bits.specs.Places.{at, inside}
use Rattle.bits.specs.Reads.{Reads, rest, spot}
use Rattle.bits.specs.declared.Place.{Place}
use Rattle.calendar_days.specs.Days.{Day, exceptions}
use Rattle.calendar_days.specs.declared.base.Lists.{Lists}

abbrev pub DayLists : Type 0
DayLists = List Date × (List Date × List Day)

abbrev pub day_lists : Format DayLists
day_lists = dates ⊗ dates ⊗ exceptions

-- the days of a Calendar's own exceptions put over others
abbrev pub days_over : Element → List Bool → DayLists → DayLists
days_over e week l =
    (insert_all ltb (flat_map (days_off week) (exceptions_of e)) l.0, (insert_all ltb (flat_map (days_on week) (exceptions_of e)) l.1.0, insert_all by_date (flat_map days_with_hours (exceptions_of e)) l.1.1))

-- ---- those that stand in a buffer

abbrev pub no_lists : DayLists
no_lists = ([], ([], []))

abbrev pub not_behind : Place → Place → Bool
not_behind p q = nat_lt p.byte q.byte || (p.byte == q.byte && nat_le p.bit q.bit)

-- lists that were read, with the bits behind them, if they end before p
abbrev pub ended_by : List ℕ → Place → DayLists × Bits → Option DayLists
ended_by d p x = when (not_behind (spot d x.1) p) x.0

-- the lists from a place on, if they stand there and end before p; else none
unfoldable pub lists_at : List ℕ → Place → Place → DayLists
lists_at d from p = (rest d from >>= day_lists.get >>= ended_by d p) or no_lists

-- ---- those of a base

-- lists stand from a place on, before p
pub record ListsFrom (from : Place) (d : List ℕ) (p : Place) (l : DayLists) : Type 0 where
  pub end : Place
  pub reads : Reads day_lists d from l end
  pub inner : inside (length d) end ≡ true
  pub before : at end ≤ at p

-- each from its place on
pub record ListsIn (r : Lists) (d : List ℕ) (p : Place) (l : DayLists) : Type 0 where
  pub holidays : Reads dates d r.holidays l.0 r.extra
  pub extra : Reads dates d r.extra l.1.0 r.exceptions
  pub exceptions : Reads exceptions d r.exceptions l.1.1 r.end
  pub inner : inside (length d) r.end ≡ true
  pub before : at r.end ≤ at p

unfoldable pub BaseLists : Option Lists → List ℕ → Place → DayLists → Type 0
BaseLists (Some r) d p l = ListsIn r d p l
BaseLists None d p l = l ≡ no_lists
