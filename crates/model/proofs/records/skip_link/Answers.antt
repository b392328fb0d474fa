use Rattle.model.specs.Parts.{link_parts}
use Rattle.model.specs.Passes.{◌⨾◌, ended}
use Rattle.model.proofs.Single.{pass_number, pass_optional_number}
use Rattle.model.proofs.records.skip_link.Goals as goal

pub returns : goal.returns
unfolding link_parts
returns c =
    let fields = c.skip-a.ensures ⨾ c.skip-b.ensures ⨾ c.skip_code-c.ensures ⨾ pass_number c.skip-d.ensures ⨾ pass_optional_number c.skip_optional-e.ensures ⨾ c.skip_lag_kind.ensures in
    ended fields c.take_pad.ensures
