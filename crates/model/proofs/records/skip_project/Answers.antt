use Rattle.model.specs.Parts.{text_by}
use Rattle.model.specs.Lax.{like_named}
use Rattle.model.specs.Passes.{◌⨾◌, ended, pass_like}
use Rattle.definition.specs.Pack.{project}
use Rattle.model.proofs.records.skip_project.Goals as goal

pub returns : goal.returns
unfolding project text_by
returns c =
    let fields = c.skip_text-a.ensures ⨾ c.skip_date-b.ensures ⨾ c.skip_text-c.ensures ⨾ c.skip-d.ensures ⨾ c.skip-e.ensures ⨾ c.skip-f.ensures ⨾ c.skip-g.ensures ⨾ c.skip_optional_date.ensures in
    (ended (pass_like (like_named _ _ _) fields) c.take_pad.ensures).0
