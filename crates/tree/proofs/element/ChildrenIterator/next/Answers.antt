use Rattle.tree.specs.Place.{meaning}
use Rattle.tree.proofs.Left.{left_none, left_step, left_less}
use Rattle.tree.proofs.element.ChildrenIterator.next.Goals as goal

pub returns-in_err-e-clause-steps : goal.returns-in_err-e-clause-steps
returns-in_err-e-clause-steps c = let h = left_none _ c.following.ensures c.in_err-e.was in rw c.from_residual.ensures (h, h)

pub returns-clause-steps : goal.returns-clause-steps
returns-clause-steps c = left_step _ c.following.ensures (meaning c.args.self.now.parent) c.in_ok-e.was

pub returns-clause-goes : goal.returns-clause-goes
returns-clause-goes c = record { on = λ f. (tt, f, left_less _ c.following.ensures (meaning c.args.self.now.parent) c.in_ok-e.was); keeps = tt; rests = λ f. tt }
