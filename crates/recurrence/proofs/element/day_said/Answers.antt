use mathlib.Core.Path.{◌∙◌}
use Rattle.recurrence.proofs.Counts.{count_said}
use Rattle.recurrence.proofs.element.day_said.Goals as goal

pub returns : goal.returns
returns c = c.count_by.ensures ∙ count_said c.date_in.result _ c.date_in.ensures
