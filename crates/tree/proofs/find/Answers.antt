use Rattle.std.proofs.Common.{rules, tests, ◌≡◌}
use Rattle.text.proofs.Equal.{same_is}
use Rattle.tree.proofs.Found.{found, element_in}
use Rattle.tree.proofs.find.Goals as goal

pub returns : goal.returns
returns c =
    let e : element_in c.find.result ≡ c.map.result = search rules in
    rw (← e) (found (λ x b q k. rw same_is (search (rules, tests))) _ c.find.new.self _ c.find.ensures.ran)
