use Rattle.std.proofs.Common.{rules}
use Rattle.model.specs.Passes.{pass_read}
use Rattle.model.proofs.Single.{pass_past, code_in, code_out}
use Rattle.model.proofs.fields.skip_code.Goals as goal

pub returns-then-contains : goal.returns-then-contains
returns-then-contains c =
    let a = c.args in
    pass_read (code_in a.s.now a.p a.lo a.hi c.take-k.ensures (search rules) (search rules))

pub returns : goal.returns
returns c =
    let a = c.args in
    pass_past (code_out a.s.now a.p a.lo a.hi c.take-k.ensures (λ l h. search rules))
