-- Exceptions that give no rule, counted. Assumes nothing.
use Rattle.std.specs.Prelude.{if◌then◌else◌, ℕ, not, List, length}
use mathlib.Core.List.{flat_map}
use Rattle.definition.specs.Base.{given, keep}
use Rattle.definition.specs.Tree.{Element}
use Rattle.definition.specs.Recurrence.{recurrence_days}
use Rattle.definition.specs.Calendar.{recurring}

abbrev pub one_if : Element → ℕ
one_if x = if not (given (recurrence_days x)) then 1 else 0

-- of some exceptions
unfoldable pub without_rule : List Element → ℕ
without_rule xs = length (keep (λ x. not (given (recurrence_days x))) xs)

-- of some calendars
abbrev pub in_all : List Element → ℕ
in_all es = without_rule (flat_map recurring es)
