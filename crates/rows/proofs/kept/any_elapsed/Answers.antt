use Rattle.std.proofs.Common.{rules, tests, ap, ◌∙◌}
use Rattle.std.proofs.lemmas.Iterator.Search.{any_from_yields_List}
use Rattle.definition.specs.Base.{some?}
use Rattle.definition.specs.Task.{is_elapsed}
use Rattle.tree.specs.Lists.{any_is}
use Rattle.rows.specs.Lists.{gives_list}
use Rattle.rows.specs.Walks.{kept_left, KeptOf}
use Rattle.rows.proofs.kept.any_elapsed.Goals as goal

pub returns : goal.returns
returns c =
    any_from_yields_List is_elapsed _ _ _ c.any.ensures.ran (gives_list KeptOf kept_left c.kept_tasks.result) (λ x b q k. search (rules, tests))
    ∙ any_is is_elapsed _
    ∙ ap (some? is_elapsed) c.kept_tasks.ensures.is
