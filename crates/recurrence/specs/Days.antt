-- The days that an iterator over a rule's days has left. Assumes nothing: these are definitions.
use Rattle.std.specs.Prelude.{List, []}
use Rattle.definition.specs.Base.{◌or◌}
use Rattle.definition.specs.Date as D
use Rattle.definition.specs.declared.Date.{Date}
use Rattle.date.specs.Scale.{day_count}
use Rattle.recurrence.specs.Meaning.{to_come}
use Rattle.recurrence.specs.declared.sequence.RuleDays.{RuleDays}

unfoldable pub days_left : RuleDays → List D.Date
days_left s = to_come s.rule s.cursor or []

-- a day by its date
abbrev pub day_of : Date → D.Date
day_of d = day_count d.0
