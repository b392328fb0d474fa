use Rattle.std.proofs.Common.{ap, ◌∙◌}
use Rattle.definition.specs.Ascii.{bytes}
use Rattle.rows.specs.Turns.{step_less, past_in, past_on}
use Rattle.rows.specs.Walks.{is_work, is_cost_resource}
use Rattle.rows.specs.Tables.{rest_of}
use Rattle.rows.specs.declared.table.Rest.{Rest}
use Rattle.rows.proofs.Listing.{picks_stop, picks_step}
use Rattle.rows.proofs.table.ListElementsIterator.next.Goals as goal

pub returns-in_err-e-in-Work-clause-steps : goal.returns-in_err-e-in-Work-clause-steps
returns-in_err-e-in-Work-clause-steps c = let h = picks_stop (bytes "Resource") is_work c.in_err-e-in-Work.was in rw (c.from_residual.ensures, c.in-Work.is) (h, h)

pub returns-in_ok-e-in-Work-clause-steps : goal.returns-in_ok-e-in-Work-clause-steps
returns-in_ok-e-in-Work-clause-steps c =
    let e = c.in_ok-e-in-Work.was in
    rw c.in-Work.is (picks_step _ _ e c.next_which.ensures, λ u o. let w = past_in e o in (w, past_on _ w c.next_which.ensures.there))

pub returns-in_ok-e-in-Work-clause-goes : goal.returns-in_ok-e-in-Work-clause-goes
returns-in_ok-e-in-Work-clause-goes c = record {
  on = λ f. (tt, f, step_less (ap (λ (r : Rest). rest_of r) c.in-Work.is ∙ picks_step _ _ c.in_ok-e-in-Work.was c.next_which.ensures));
  keeps = tt;
  rests = λ f. tt;
}

pub returns-in_err-e-in-Cost-clause-steps : goal.returns-in_err-e-in-Cost-clause-steps
returns-in_err-e-in-Cost-clause-steps c = let h = picks_stop (bytes "Resource") is_cost_resource c.in_err-e-in-Cost.was in rw (c.from_residual-in_err-e-in-Cost.ensures, c.in-Cost.is) (h, h)

pub returns-in_ok-e-in-Cost-clause-steps : goal.returns-in_ok-e-in-Cost-clause-steps
returns-in_ok-e-in-Cost-clause-steps c =
    let e = c.in_ok-e-in-Cost.was in
    rw c.in-Cost.is (picks_step _ _ e c.next_which-in-Cost.ensures, λ u o. let w = past_in e o in (w, past_on _ w c.next_which-in-Cost.ensures.there))

pub returns-in_ok-e-in-Cost-clause-goes : goal.returns-in_ok-e-in-Cost-clause-goes
returns-in_ok-e-in-Cost-clause-goes c = record {
  on = λ f. (tt, f, step_less (ap (λ (r : Rest). rest_of r) c.in-Cost.is ∙ picks_step _ _ c.in_ok-e-in-Cost.was c.next_which-in-Cost.ensures));
  keeps = tt;
  rests = λ f. tt;
}
