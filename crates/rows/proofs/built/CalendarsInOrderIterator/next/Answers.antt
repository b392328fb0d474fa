use Rattle.std.proofs.Common.{◌∙◌}
use Rattle.tree.specs.Place.{Past}
use Rattle.tree.specs.Root.{root_at}
use Rattle.rows.specs.Turns.{order_end, order_given, step_less, past_in}
use Rattle.rows.proofs.built.CalendarsInOrderIterator.next.Goals as goal

pub returns-in_err-e-clause-steps : goal.returns-in_err-e-clause-steps
returns-in_err-e-clause-steps c =
    let h = c.following.ensures.is ∙ order_end (root_at c.args.self.now.root) c.in_err-e.was in rw c.from_residual.ensures (h, h)

pub returns-clause-steps : goal.returns-clause-steps
unfolding Past
returns-clause-steps c =
    let self = c.args.self.now in (
      c.following.ensures.is ∙ order_given (root_at self.root) c.in_ok-e.was,
      λ u o.
          let p : Past self.root.tree.now 0 self.last = rw o.0 o.1 in
          let w = rw o.0 at (past_in c.in_ok-e.was (c.following.ensures.there p)) in
          (w, (o.0, w)),
    )

pub returns-clause-goes : goal.returns-clause-goes
returns-clause-goes c = record {
  on = λ f. (tt, f, step_less (c.following.ensures.is ∙ order_given (root_at c.args.self.now.root) c.in_ok-e.was));
  keeps = tt;
  rests = λ f. tt;
}
