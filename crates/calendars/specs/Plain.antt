-- Calendars of seven flags and the same hours on each weekday. Assumes nothing.
use Rattle.std.specs.Prelude.{List, [], ◌∷◌, Option, Some, None}
use Rattle.definition.specs.Format.{Period}
use Rattle.definition.specs.declared.Period.{Period as PeriodAt}

-- one period, or no hours
abbrev pub hours_each : Option PeriodAt → List Period
hours_each (Some t) = (t.from, t.to) ∷ []
hours_each None = []
