use Rattle.std.proofs.Common.{rules}
use Rattle.definition.specs.Format.{field}
use Rattle.model.proofs.Single.{pass_flagged}
use Rattle.model.proofs.fields.skip_optional.Goals as goal

pub returns : goal.returns
returns c = pass_flagged (field c.args.width) c.skip_flagged.ensures (λ q h. search rules)
