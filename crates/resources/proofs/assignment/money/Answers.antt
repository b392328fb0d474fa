use Rattle.std.proofs.Common.{rules}
use Rattle.resources.proofs.HeldAmounts.{small_if_said}
use Rattle.resources.proofs.assignment.money.Goals as goal

pub returns-clause-small : goal.returns-clause-small
returns-clause-small c = small_if_said c.number_in.result {r = c.and_then.result} (search rules)
