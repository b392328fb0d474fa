use Rattle.std.proofs.Common.{rules, tests, refl, ◌∙◌}
use Rattle.std.proofs.lemmas.Iterator.Consumers.{YieldsList-from_first}
use Rattle.std.proofs.lemmas.Iterator.Search.{all_from_yields_List}
use Rattle.definition.specs.Refusal.{utf8?}
use Rattle.tree.specs.Place.{record_by}
use Rattle.tree.specs.Walks.{heads_left}
use Rattle.tree.proofs.Passes.{all_is}
use Rattle.tree.proofs.refusal.all_utf8.Goals as goal

pub returns : goal.returns
unfolding utf8?
returns c = all_from_yields_List utf8? c.all.new.self _ _ c.all.ensures.ran (YieldsList-from_first record_by heads_left _ refl) (λ x b q k. search (rules, tests)) ∙ all_is utf8? _
