use Rattle.model.specs.Parts.{assignment_parts}
use Rattle.model.specs.Passes.{◌⨾◌, ended}
use Rattle.model.proofs.Single.{pass_number, pass_optional_number}
use Rattle.model.proofs.records.skip_assignment.Goals as goal

pub returns : goal.returns
unfolding assignment_parts
returns c =
    let fields = c.skip-a.ensures ⨾ c.skip-b.ensures ⨾ pass_number c.skip-c.ensures ⨾ pass_number c.skip-d.ensures ⨾ pass_optional_number c.skip_optional-e.ensures ⨾ pass_optional_number c.skip_optional.ensures in
    ended fields c.take_pad.ensures
