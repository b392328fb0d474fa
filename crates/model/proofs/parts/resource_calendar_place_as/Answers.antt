use Rattle.model.specs.Passes.{◌⨾◌}
use Rattle.model.proofs.Single.{pass_number}
use Rattle.model.proofs.parts.resource_calendar_place_as.Goals as goal

pub returns : goal.returns
returns g c =
    c.skip_text-a.ensures ⨾ c.skip_text-b.ensures ⨾ c.skip_code-c.ensures
    ⨾ c.skip_text-d.ensures ⨾ pass_number c.skip.ensures
