use Rattle.std.proofs.Common.{Some, ap, ◌∙◌}
use Rattle.assignments.proofs.resource.Section.calendar_of.Goals as goal

pub returns : goal.returns
returns c = rw (← c.in_ok-uid.ensures) (ap Some c.starred.ensures ∙ c.in_ok-name.ensures.is)
