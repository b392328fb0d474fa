use Rattle.index.specs.Law.{chain_end, chain_step, chain_less}
use Rattle.index.proofs.ChainIterator.next.Goals as goal

pub returns-in_err-r-clause-steps : goal.returns-in_err-r-clause-steps
returns-in_err-r-clause-steps c =
    let h = chain_end c.args.self.now c.in_err-r.was in
    rw c.from_residual.ensures (h, h)

pub returns-clause-steps : goal.returns-clause-steps
returns-clause-steps c = chain_step c.args.self.now c.in_ok-r.was c.next-self.ensures

pub returns-clause-goes : goal.returns-clause-goes
returns-clause-goes c = record { on = λ f. (tt, f, chain_less c.args.self.now c.in_ok-r.was c.next-self.ensures); keeps = tt; rests = λ f. tt }
