use Rattle.std.proofs.Common.{refl, ap, ◌∙◌}
use Rattle.definition.specs.Base.{find_last}
use Rattle.rows.specs.Rows.{has_uid}
use Rattle.rows.specs.Tables.{elements_left}
use Rattle.rows.specs.declared.table.ListElements.{ListElements}
use Rattle.rows.proofs.Lasts.{last_begin, last_turn, last_end, found_there}
use Rattle.rows.proofs.resource.cost_resource.Goals as goal

pub loop-e-init : goal.loop-e-init
loop-e-init c = (last_begin _ refl, rw c.into_iter-e-iterator.ensures.into_iter_gives c.elements-e-items.ensures.of, tt)

pub loop-e-preserved : goal.loop-e-preserved
loop-e-preserved c =
    let t = c.in-Some.ensures.steps.1 _ c.loop-e.invariant.1 in (
      last_turn c.loop-e.invariant.0 _ c.in-Some.ensures.steps.0 c.text_is.ensures c.then_some-named.ensures c.or-found.ensures,
      t.1,
      found_there _ _ _ t.0.tree _ c.loop-e.invariant.2 c.then_some-named.ensures c.or-found.ensures,
    )

pub returns-clause-is : goal.returns-clause-is
returns-clause-is c =
    last_end c.loop-e.invariant.0 c.in-None.ensures.steps.0 ∙ ap (find_last (has_uid c.args.uid.now)) (ap (λ (k : ListElements). elements_left k) c.into_iter-e-iterator.ensures.into_iter_gives ∙ c.elements-e-items.ensures.is)
