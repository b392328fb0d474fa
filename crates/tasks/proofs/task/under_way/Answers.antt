use mathlib.Core.Bool.{not, ◌&&◌}
use Rattle.definition.specs.Ascii.{bytes}
use Rattle.definition.specs.Field.{date_in}
use Rattle.tree.specs.Place.{meaning}
use Rattle.fields.specs.Said.{date_said}
use Rattle.tasks.proofs.Codes.{given_date}
use Rattle.tasks.proofs.task.under_way.Goals as goal

pub returns : goal.returns
unfolding date_in
returns c =
    let e = meaning c.args.task in
    let begun = given_date (date_said e (bytes "ActualStart")) _ c.is_some-begun.ensures c.date_in.ensures in
    let ended = given_date (date_said e (bytes "ActualFinish")) _ c.is_some-ended.ensures c.date_in-2.ensures in
    λ i. begun i && not (ended i)
