use Rattle.std.proofs.Common.{ap, ◌∙◌}
use Rattle.definition.specs.Time.{time_parts, time_of}
use Rattle.number.proofs.time.time_of.Goals as goal

pub returns : goal.returns
unfolding time_of
returns c = c.time_parts.ensures ∙ ap time_parts c.trim.ensures
