use Rattle.definition.specs.Field.{number_in}
use Rattle.resources.proofs.HeldAmounts.{means_as}
use Rattle.resources.proofs.assignment.cost.Goals as goal

pub returns : goal.returns
unfolding number_in
returns c = means_as c.money.ensures.is c.money-2.ensures.is c.money-3.ensures.is c.amounts_of.ensures
