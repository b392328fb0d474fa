use Rattle.std.proofs.Common.{◌≡◌, refl, ap, ◌∙◌}
use Rattle.definition.specs.Resource.{work_resources}
use Rattle.laws.specs.FitTrees.{holds_work}
use Rattle.tree.specs.Root.{root_at}
use Rattle.rows.specs.Small.{small_root}
use Rattle.rows.specs.Tables.{elements_left}
use Rattle.assignments.proofs.Work.{go_all, go_more, go_end}
use Rattle.assignments.proofs.resource.Section.put.Goals as goal

pub loop-e-init : goal.loop-e-init
loop-e-init c =
    let k = c.args.self in
    let e : elements_left c.into_iter-e-iterator.result ≡ work_resources (root_at k.root) = ap elements_left c.into_iter-e-iterator.ensures.into_iter_gives ∙ c.elements-e-items.ensures.is in
    (refl, refl, rw c.none-done.ensures (go_all k e (holds_work (small_root k.root c.are_bytes.ensures.bytes))))

pub loop-e-preserved : goal.loop-e-preserved
loop-e-preserved c =
    let k = c.args.self in
    (c.put_one-done.auto.out ∙ c.loop-e.invariant.0, c.put_one-done.auto.words ∙ c.loop-e.invariant.1, go_more k c.in-Some.ensures.steps.0 c.loop-e.invariant.2 c.put_one-done.ensures (small_root k.root c.are_bytes.ensures.bytes))

pub returns : goal.returns
returns c = go_end c.args.self c.loop-e.invariant.2 c.in-None.ensures.steps.0 refl
