use Rattle.std.proofs.Common.{ℕ, rules, tests, ap, ◌∙◌}
use Rattle.std.proofs.lemmas.Iterator.Search.{find_from_yields_List}
use Rattle.std.specs.Prelude.{Some}
use Rattle.definition.specs.Base.{◌>>=◌, ◌or◌, find}
use Rattle.index.specs.Chains.{chain_of, place_of}
use Rattle.index.specs.Lists.{chain_list, found_is}
use Rattle.names.specs.Ids.{wants, behind, stars_from}
use Rattle.names.proofs.Chained.{its_number}
use Rattle.names.proofs.ids.Ids.stars_from.Goals as goal

pub returns : goal.returns
unfolding stars_from
returns c =
    let a = c.args in
    let own = wants a.out.now a.words.now a.self a.wanted.now in
    let stars = λ (r : ℕ). behind (place_of a.words.now a.self.wanted r) a.count in
    its_number stars c.find.result c.map_or.result c.map_or.ensures (λ r h. search rules)
    ∙ ap (λ o. (o >>= λ r. Some (stars r)) or 0)
    (found_is own _ c.find.result (find_from_yields_List own c.find.new.self _ c.find.result c.find.ensures.ran (chain_list c.chain.result) (λ x b q k. search (rules, tests)))
    ∙ ap (find own) (c.chain.ensures ∙ ap (chain_of a.words.now a.self.wanted) c.hash_of.ensures))
