use Rattle.std.proofs.Common.{◌∙◌}
use Rattle.calendar.proofs.Flags.{word_back}
use Rattle.calendar.proofs.week.week_of.Goals as goal

pub returns : goal.returns
returns c = c.low.ensures ∙ word_back _ _ c.week_under.ensures
