-- `model_check::rules::resource_right` meets its contract. Assumes nothing.
use Rattle.model.specs.Places.{resource_calendar_lem}
use Rattle.model_check.proofs.rules.resource_right.Goals as goal

pub returns : goal.returns
returns c = λ m end d n a h. c.calendar_known.ensures m end d n a.calendar (resource_calendar_lem h c.resource_calendar_place.ensures)
