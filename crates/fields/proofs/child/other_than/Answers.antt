use Rattle.std.proofs.Common.{rules, tests}
use Rattle.fields.proofs.Empty.{other_if}
use Rattle.fields.proofs.child.other_than.Goals as goal

pub returns : goal.returns
returns c = other_if c.text_in.result c.args.value.now c.text_in.ensures c.is_some_and.ensures (λ x h. search (rules, tests))
