use Rattle.std.proofs.Common.{◌∙◌}
use Rattle.tree.specs.Place.{meaning}
use Rattle.calendar.specs.Hours.{time_by, working_time_lem}
use Rattle.calendar.proofs.hours.working_time.Goals as goal

pub returns : goal.returns
returns c =
    c.time_by.ensures
    ∙ (λ i. time_by (c.time_in-from.ensures i) (c.time_in.ensures i))
    ∙ working_time_lem (meaning c.args.e)
