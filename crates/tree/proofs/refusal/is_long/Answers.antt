use Rattle.std.proofs.Common.{rules, tests, sym, ◌∙◌, ◌≡◌}
use Rattle.std.proofs.lemmas.Iterator.{YieldsList-from_slice}
use Rattle.std.proofs.lemmas.Iterator.Search.{any_from_yields_List}
use Rattle.definition.specs.Base.{some?, same}
use Rattle.definition.specs.Refusal.{number_names, duration_names}
use Rattle.tree.proofs.Passes.{as_number, as_duration, as_other}
use Rattle.tree.proofs.refusal.is_long.Goals as goal
use Rattle.tree.proofs.refusal.is_long.Goals.{After-any, After-any-2}

number : (c : After-any) → c.any.result ≡ some? (same c.args.name.now) number_names
unfolding some?
number c = any_from_yields_List (λ n. same c.args.name.now n.now) c.any.new.self _ c.any.result c.any.ensures.ran (YieldsList-from_slice _ c.iter.ensures.rest) (λ x b q k. search (rules, tests))

duration : (c : After-any-2) → c.any-2.result ≡ some? (same c.args.name.now) duration_names
unfolding some?
duration c = any_from_yields_List (λ n. same c.args.name.now n.now) c.any-2.new.self _ c.any-2.result c.any-2.ensures.ran (YieldsList-from_slice _ c.iter-2.ensures.rest) (λ x b q k. search (rules, tests))

pub returns-then-any : goal.returns-then-any
returns-then-any c =
    as_number _ _ (sym (number (goal.at.returns-then-any c).After-any) ∙ c.if-any.true) c.trim.ensures c.number_of.ensures c.too_long.ensures

pub returns-then-any-2 : goal.returns-then-any-2
returns-then-any-2 c =
    as_duration _ _ (sym (number (goal.at.returns-then-any-2 c).After-any) ∙ c.if-any.false)
    (sym (duration (goal.at.returns-then-any-2 c).After-any-2) ∙ c.if-any-2.true) c.duration_of.ensures c.too_long-then-any-2.ensures

pub returns-else-any-2 : goal.returns-else-any-2
returns-else-any-2 c =
    c.if-any-2.false
    ∙ as_other _ _ (sym (number (goal.at.returns-else-any-2 c).After-any) ∙ c.if-any.false)
    (sym (duration (goal.at.returns-else-any-2 c).After-any-2) ∙ c.if-any-2.false)
