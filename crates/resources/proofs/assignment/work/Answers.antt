use Rattle.definition.specs.Field.{minutes_in}
use Rattle.resources.proofs.HeldAmounts.{means_as}
use Rattle.resources.proofs.assignment.work.Goals as goal

pub returns : goal.returns
unfolding minutes_in
returns c = means_as c.hours.ensures.is c.hours-2.ensures.is c.hours-3.ensures.is c.amounts_of.ensures
