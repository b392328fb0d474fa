use mathlib.Core.Path.{◌∙◌}
use Rattle.tree.specs.Place.{meaning}
use Rattle.definition.specs.Ascii.{bytes}
use Rattle.definition.specs.Field.{int_in, date_in}
use Rattle.definition.specs.Task.{constraint_from}
use Rattle.fields.specs.Answers.{unsigned_or_0}
use Rattle.fields.specs.Said.{date_said}
use Rattle.tasks.proofs.Codes.{constraint_numbered}
use Rattle.tasks.proofs.task.constraint_of.Goals as goal

pub returns : goal.returns
unfolding int_in date_in
returns c =
    let k = c.unsigned_in-kind.ensures ∙ unsigned_or_0 0 _ in
    let d = c.date_in.ensures in
    c.constraint_by.ensures ∙ (λ i. constraint_from (k i) (d i)) ∙ constraint_numbered _ (date_said (meaning c.args.task) (bytes "ConstraintDate"))
