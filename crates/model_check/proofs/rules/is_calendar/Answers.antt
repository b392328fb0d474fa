-- `model_check::rules::is_calendar` meets its contract. Assumes nothing.
use mathlib.Core.Path.{◌∙◌}
use Rattle.definition.specs.Model.{Calendar}
use Rattle.model_check.specs.Kinds.{run}
use Rattle.model_check.proofs.Keyed.{calendar_key}
use Rattle.model_check.proofs.Right.{named, named_in}
use Rattle.model_check.proofs.rules.is_calendar.Goals as goal

pub returns-in-Some : goal.returns-in-Some
returns-in-Some c =
    λ m end d x. c.table_has_key.ensures _ (rw c.in-Some.is at x) ∙ named_in m _

pub returns-in-None : goal.returns-in-None
returns-in-None c =
    λ m end d x. c.some_has_key.ensures (λ (x : Calendar). (0, x.name)) calendar_key m.calendars _ (run _ d) ∙ named m _
