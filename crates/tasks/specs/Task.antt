-- What a constraint and a duration type mean. Assumes nothing.
use Rattle.std.specs.Prelude.{ℕ, ℤ}
use Rattle.std.specs.Prelude.{Option, Some, None}
use Rattle.definition.specs.Date.{Date}
use Rattle.definition.specs.Answer.{day_number_of}
use Rattle.tasks.specs.declared.task.Constraint.{Constraint}
use Rattle.tasks.specs.declared.task.Constraint.TheVariants as constraint
use Rattle.tasks.specs.declared.task.DurationType.{DurationType}
use Rattle.tasks.specs.declared.task.DurationType.TheVariants as duration

-- MSPDI's code, and the day number of the date
abbrev pub code_and_day : Constraint → ℕ × Option ℤ
code_and_day constraint.AsLateAsPossible = (1, None)
code_and_day (constraint.StartOn d) = (2, Some d.0)
code_and_day (constraint.FinishOn d) = (3, Some d.0)
code_and_day (constraint.StartOnOrAfter d) = (4, Some d.0)
code_and_day (constraint.StartOnOrBefore d) = (5, Some d.0)
code_and_day (constraint.FinishOnOrAfter d) = (6, Some d.0)
code_and_day (constraint.FinishOnOrBefore d) = (7, Some d.0)

unfoldable pub constraint_means : Option Constraint → Option (ℕ × Option ℤ)
constraint_means (Some c) = Some (code_and_day c)
constraint_means None = None

-- a constraint of the definition, with the day number of its date
unfoldable pub day_numbered : Option (ℕ × Option Date) → Option (ℕ × Option ℤ)
day_numbered None = None
day_numbered (Some (k, d)) = Some (k, day_number_of d)

-- the model's code
abbrev pub duration_type_code : DurationType → ℕ
duration_type_code duration.FixedDurationAndRate = 0
duration_type_code duration.FixedRate = 2
duration_type_code duration.FixedUnits = 3
