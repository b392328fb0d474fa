use Rattle.definition.specs.Field.{yes_in}
use Rattle.calendar.proofs.week.day_working.Goals as goal

pub returns : goal.returns
unfolding yes_in
returns c = c.yes_in.ensures
