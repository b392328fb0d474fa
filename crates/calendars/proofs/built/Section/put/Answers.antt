use Rattle.std.proofs.Common.{◌≡◌, refl, sym, ap, ◌∙◌}
use Rattle.tree.specs.Root.{root_at}
use Rattle.rows.specs.Rows.{in_order}
use Rattle.rows.specs.Walks.{calendars_left}
use Rattle.rows.specs.declared.built.CalendarsInOrder.{CalendarsInOrder}
use Rattle.calendars.proofs.Builts.{sofar_none, sofar_more, sofar_all}
use Rattle.calendars.proofs.built.Section.put.Goals as goal

pub loop-e-init : goal.loop-e-init
loop-e-init c =
    let e : calendars_left c.into_iter-e-iterator.result ≡ in_order (root_at c.args.self.root) = ap (λ (k : CalendarsInOrder). calendars_left k) c.into_iter-e-iterator.ensures.into_iter_gives ∙ c.calendars-e-items.ensures.is in
    rw c.none-done.ensures (refl, refl, sofar_none (sym e))

pub loop-e-preserved : goal.loop-e-preserved
loop-e-preserved c =
    (c.put_one-done.auto.out ∙ c.loop-e.invariant.0, c.put_one-done.auto.words ∙ c.loop-e.invariant.1, sofar_more c.in-Some.ensures.steps.0 c.loop-e.invariant.2 c.put_one-done.ensures)

pub returns : goal.returns
returns c = sofar_all c.in-None.ensures.steps.0 c.loop-e.invariant.2
