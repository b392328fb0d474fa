use Rattle.calendar_days.proofs.Elements.{given_some}
use Rattle.std.proofs.Common.{sym, ap, ◌∙◌}
use Rattle.definition.specs.Base.{given}
use Rattle.calendar_days.proofs.exceptions.is_time.Goals as goal

pub returns : goal.returns
returns c = c.is_some.ensures ∙ sym (given_some c.working_time.result) ∙ ap given c.working_time.ensures
