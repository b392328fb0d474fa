use Rattle.model.specs.Passes.{◌⨾◌, ended}
use Rattle.model.specs.Parts.{activity_parts}
use Rattle.model.proofs.records.skip_activity.Goals as goal

pub returns : goal.returns
unfolding activity_parts
returns g c = ended (c.parent_place_as-a.ensures ⨾ c.skip_optional-b.ensures ⨾ c.skip_from_notes_as.ensures) c.take_pad.ensures
