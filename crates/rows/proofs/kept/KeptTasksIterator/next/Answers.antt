use Rattle.std.proofs.Common.{◌∙◌}
use Rattle.tree.specs.Place.{Past}
use Rattle.tree.specs.Root.{root_at}
use Rattle.rows.specs.Turns.{kept_end, kept_given, step_less, past_in}
use Rattle.rows.specs.Walks.{place_in}
use Rattle.rows.proofs.Walking.{place_at}
use Rattle.rows.proofs.kept.KeptTasksIterator.next.Goals as goal

pub returns-in_err-task-clause-steps : goal.returns-in_err-task-clause-steps
returns-in_err-task-clause-steps c = let h = c.following.ensures.is ∙ kept_end c.in_err-task.was in rw c.from_residual.ensures (h, h)

pub returns-clause-steps : goal.returns-clause-steps
unfolding Past
returns-clause-steps c =
    let self = c.args.self.now in (
      c.following.ensures.is ∙ kept_given (root_at self.root) c.in_ok-task.was,
      λ u o.
          let p : Past self.root.tree.now 0 (place_in self.last) = rw o.0 o.1 in
          let w = rw o.0 at (past_in (place_at c.in_ok-task.was) (c.following.ensures.there p)) in
          (w, (o.0, w)),
    )

pub returns-clause-goes : goal.returns-clause-goes
returns-clause-goes c = record {
  on = λ f. (tt, f, step_less (c.following.ensures.is ∙ kept_given (root_at c.args.self.now.root) c.in_ok-task.was));
  keeps = tt;
  rests = λ f. tt;
}
