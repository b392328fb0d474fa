use Rattle.std.proofs.Common.{ℕ, rules, tests, ap, ◌∙◌}
use Rattle.std.proofs.lemmas.Iterator.Search.{any_from_yields_List}
use Rattle.definition.specs.Base.{find, given}
use Rattle.index.specs.Chains.{chain_of, place_of}
use Rattle.index.specs.Lists.{chain_list, any_is}
use Rattle.assignments.specs.Records.{is_expense_at}
use Rattle.assignments.specs.InUse.{is_used}
use Rattle.assignments.proofs.expense.Key.seek.Goals as goal

pub returns : goal.returns
unfolding is_used
returns c =
    let a = c.args in
    let has = λ (r : ℕ). is_expense_at a.out.now (record { byte = place_of a.words.now a.t r; bit = 0 }) a.self.activity a.self.name.now in
    any_from_yields_List has c.any.new.self _ c.any.result c.any.ensures.ran (chain_list c.chain.result) (λ x b q k. search (rules, tests))
    ∙ any_is has _
    ∙ ap (λ l. given (find has l)) (c.chain.ensures ∙ ap (chain_of a.words.now a.t) c.hash.ensures)
