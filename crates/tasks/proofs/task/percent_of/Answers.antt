use Rattle.std.proofs.Common.{rules}
use mathlib.Core.Path.{sym}
use Rattle.definition.specs.Field.{number_in}
use Rattle.tasks.proofs.task.percent_of.Goals as goal

pub returns : goal.returns
unfolding number_in
returns c = rw (sym c.number_in.ensures) (search rules)
