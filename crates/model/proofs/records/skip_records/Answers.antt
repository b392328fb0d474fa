use Rattle.std.proofs.Common.{rules}
use Rattle.model.specs.Passes.{pass_repeated}
use Rattle.model.specs.Parts.{record_of}
use Rattle.model.proofs.records.skip_records.Goals as goal

pub returns : goal.returns
returns c = pass_repeated (record_of c.args.check c.args.kind) (λ q r h. search rules) c.skip_times.ensures
