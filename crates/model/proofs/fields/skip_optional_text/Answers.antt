use Rattle.std.proofs.Common.{rules}
use Rattle.model.specs.Parts.{text_by}
use Rattle.model.proofs.Single.{is_set, pass_flagged}
use Rattle.model.proofs.fields.skip_optional_text.Goals as goal

pub returns : goal.returns
returns g c = pass_flagged (text_by (is_set g.row.CHECK)) c.skip_flagged.ensures (λ q h. search rules)
