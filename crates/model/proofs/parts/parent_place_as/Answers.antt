use Rattle.model.specs.Passes.{◌⨾◌}
use Rattle.model.proofs.Single.{pass_number, pass_optional_number}
use Rattle.model.proofs.parts.parent_place_as.Goals as goal

pub returns : goal.returns
returns g c =
    c.skip_text-a.ensures ⨾ c.skip_text-b.ensures ⨾ c.skip_code-c.ensures
    ⨾ pass_number c.skip-d.ensures ⨾ pass_optional_number c.skip_optional.ensures
