use Rattle.model.specs.Passes.{◌⨾◌}
use Rattle.model.proofs.Single.{pass_optional_number}
use Rattle.model.specs.Parts.{activity_rest}
use Rattle.model.proofs.records.skip_activity_rest.Goals as goal

pub returns : goal.returns
unfolding activity_rest
returns g c = c.skip_optional_text-a.ensures ⨾ c.skip_optional_constraint-b.ensures ⨾ c.skip_optional_date-c.ensures ⨾ c.skip_optional_date-d.ensures ⨾ c.skip_optional_date-e.ensures ⨾ pass_optional_number c.skip_optional-f.ensures ⨾ c.skip_code-g.ensures ⨾ pass_optional_number c.skip_optional-h.ensures ⨾ c.skip_text.ensures
