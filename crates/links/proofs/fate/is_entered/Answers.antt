use Rattle.std.proofs.Common.{rules, tests, ap, ◌∙◌}
use Rattle.std.proofs.lemmas.Iterator.Search.{any_from_yields_List}
use Rattle.definition.specs.Base.{some?}
use Rattle.tree.specs.Lists.{any_is, children_list}
use Rattle.tree.specs.Place.{meaning}
use Rattle.links.specs.Entered.{kept_is}
use Rattle.links.specs.Fates.{found_by, is_kept_link, is_entered}
use Rattle.links.proofs.fate.is_entered.Goals as goal

pub returns : goal.returns
unfolding is_entered
returns c =
    let kept = is_kept_link (found_by c.args.finder) in
    any_from_yields_List kept c.any.new.self _ _ c.any.ensures.ran (children_list c.children.result) (λ x b q k. search (rules, tests, kept_is (found_by c.args.finder) (meaning x)))
    ∙ any_is kept _
    ∙ ap (some? kept) c.children.ensures
