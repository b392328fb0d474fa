use Rattle.model.specs.Passes.{◌⨾◌}
use Rattle.model.proofs.records.skip_from_notes_as.Goals as goal

pub returns : goal.returns
returns g c = c.skip_text-a.ensures ⨾ c.skip_activity_rest.ensures
