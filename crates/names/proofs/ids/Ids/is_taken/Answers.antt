use Rattle.std.proofs.Common.{rules, tests, ap, ◌∙◌}
use Rattle.std.proofs.lemmas.Iterator.Search.{any_from_yields_List}
use Rattle.definition.specs.Base.{find, given}
use Rattle.index.specs.Chains.{chain_of}
use Rattle.index.specs.Lists.{chain_list, any_is}
use Rattle.names.specs.Ids.{is_id, taken_in}
use Rattle.names.proofs.ids.Ids.is_taken.Goals as goal

pub returns : goal.returns
unfolding taken_in
returns c =
    let a = c.args in
    let has = is_id a.out.now a.words.now a.self a.wanted.now a.stars in
    any_from_yields_List has c.any.new.self _ c.any.result c.any.ensures.ran (chain_list c.chain.result) (λ x b q k. search (rules, tests))
    ∙ any_is has _
    ∙ ap (λ l. given (find has l)) (c.chain.ensures ∙ ap (chain_of a.words.now a.self.ids) c.hash_starred.ensures)
