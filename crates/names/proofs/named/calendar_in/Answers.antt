-- `names::named::calendar_in` meets its contract. Assumes nothing.
use Rattle.names.proofs.Answered.{named_ready, named_none}
use Rattle.names.proofs.named.calendar_in.Goals as goal

pub returns-in-Some-clause-is : goal.returns-in-Some-clause-is
returns-in-Some-clause-is c = named_ready _ _ _ _ c.in-Some.is c.seek.ensures c.name_of.ensures.is

pub returns-in-None-clause-is : goal.returns-in-None-clause-is
returns-in-None-clause-is c = named_none _ _ _ _ c.in-None.is c.scan.ensures.is
