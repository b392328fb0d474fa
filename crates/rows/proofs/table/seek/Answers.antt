use Rattle.std.proofs.Common.{ℕ, rules, tests, ap, ◌∙◌}
use Rattle.std.proofs.lemmas.Iterator.Search.{find_from_yields_List}
use Rattle.definition.specs.Base.{find, same}
use Rattle.index.specs.Chains.{chain_of, place_of}
use Rattle.index.specs.Lists.{chain_list, found_is}
use Rattle.tree.specs.Place.{element_at}
use Rattle.rows.specs.Tables.{uid_of}
use Rattle.rows.proofs.table.seek.Goals as goal

pub returns : goal.returns
returns c =
    let a = c.args in
    let has = λ (r : ℕ). same (uid_of (element_at a.tree.now (place_of a.words.now a.t r))) a.uid.now in
    found_is has _ c.find.result (find_from_yields_List has c.find.new.self _ c.find.result c.find.ensures.ran (chain_list c.chain.result) (λ x b q k. search (rules, tests)))
    ∙ ap (find has) (c.chain.ensures ∙ ap (chain_of a.words.now a.t) c.hash_of.ensures)
