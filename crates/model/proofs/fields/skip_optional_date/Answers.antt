use Rattle.std.proofs.Common.{rules}
use Rattle.definition.specs.Format.{date}
use Rattle.model.proofs.Single.{pass_flagged}
use Rattle.model.proofs.fields.skip_optional_date.Goals as goal

pub returns : goal.returns
returns c = pass_flagged date c.skip_flagged.ensures (λ q h. search rules)
