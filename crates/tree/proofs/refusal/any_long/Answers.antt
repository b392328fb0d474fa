use Rattle.std.proofs.Common.{rules, tests, refl, ap, ltb, ◌∙◌}
use Rattle.std.proofs.lemmas.Iterator.Consumers.{YieldsList-from_first, YieldsList-at}
use Rattle.std.proofs.lemmas.Iterator.Search.{any_from_yields_List, YieldsList-from_take_while}
use Rattle.definition.specs.Base.{some?}
use Rattle.definition.specs.Tree.{Rec}
use Rattle.definition.specs.Refusal.{too_long}
use Rattle.tree.specs.Lists.{any_is}
use Rattle.tree.specs.Place.{record_by}
use Rattle.tree.specs.Walks.{heads_left}
use Rattle.tree.proofs.Passes.{below_is}
use Rattle.tree.proofs.refusal.any_long.Goals as goal

pub returns : goal.returns
unfolding too_long
returns c =
    let behind = YieldsList-at c.take_while.ensures.source (YieldsList-from_first record_by heads_left _ refl) in
    any_from_yields_List too_long c.any.new.self _ _ c.any.ensures.ran
    (YieldsList-from_take_while _ (λ (r : Rec). ltb 1 r.depth) behind c.take_while.ensures.closure c.take_while.ensures.done (λ x b q k. search (rules, tests)))
    (λ x b q k. search (rules, tests))
    ∙ any_is too_long _
    ∙ ap (some? too_long) (below_is (record { tree = c.args.s; at = 0 }) c.next.new.self _ c.next.ensures.steps)
