use Rattle.std.proofs.Common.{◌+◌, eqb, get_or, length, rules, tests, refl, ◌∙◌, arith}
use Rattle.std.proofs.lemmas.Iterator.{YieldsList-from_range}
use Rattle.std.proofs.lemmas.Iterator.Search.{all_from_yields_List}
use Rattle.names.proofs.Starred.{other_lengths, all_same}
use Rattle.names.proofs.stars.same_starred.Goals as goal

pub returns-then-len-b : goal.returns-then-len-b
returns-then-len-b c =
    let a = c.args in
    other_lengths a.a.now a.b.now a.m a.n c.if-len-b.true

pub returns : goal.returns
returns c =
    let a = c.args in
    let n = length a.a.now + a.m in
    all_from_yields_List (λ i. eqb (get_or a.a.now i 42) (get_or a.b.now i 42)) c.all.new.self _ _ c.all.ensures.ran (YieldsList-from_range 0 n n refl (omega arith)) (λ x b q k. search (rules, tests))
    ∙ all_same a.a.now a.b.now a.m a.n (omega (arith, c.if-len-b.false)) n 0 (omega arith)
