use Rattle.std.proofs.Common.{◌∙◌}
use Rattle.text.proofs.Wellformed.{tested}
use Rattle.text.proofs.utf8.is_utf8.Goals as goal

pub returns : goal.returns
returns c = c.is_ok.ensures.value ∙ tested _ _ c.args.s.now c.from_utf8.result c.from_utf8.ensures.cases
