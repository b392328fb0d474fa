use Rattle.model.specs.Passes.{◌⨾◌, ended}
use Rattle.model.specs.Parts.{resource_parts}
use Rattle.model.proofs.Single.{pass_optional_number}
use Rattle.model.proofs.records.skip_resource.Goals as goal

pub returns : goal.returns
unfolding resource_parts
returns g c = ended (c.resource_calendar_place_as-a.ensures ⨾ c.skip_optional_text-b.ensures ⨾ pass_optional_number c.skip_optional.ensures) c.take_pad.ensures
