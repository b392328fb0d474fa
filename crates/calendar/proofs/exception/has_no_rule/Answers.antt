use Rattle.calendar.proofs.Counts.{no_rule}
use Rattle.calendar.proofs.exception.has_no_rule.Goals as goal

pub returns : goal.returns
returns c = no_rule _ _ c.rule_of.ensures.is _ c.is_none.ensures
