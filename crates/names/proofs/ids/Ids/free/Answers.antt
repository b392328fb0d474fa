use Rattle.std.proofs.Common.{ℕ, ◌-◌, rules, tests, refl, ap, ◌∙◌, arith}
use Rattle.std.specs.Prelude.{not}
use Rattle.std.proofs.lemmas.Iterator.{YieldsList-from_range}
use Rattle.std.proofs.lemmas.Iterator.Search.{find_from_yields_List}
use Rattle.names.specs.Stars.{tries}
use Rattle.names.specs.Ids.{taken_in, free_in}
use Rattle.names.proofs.Starred.{found_tries}
use Rattle.names.proofs.ids.Ids.free.Goals as goal

pub returns : goal.returns
unfolding free_in
returns c =
    let a = c.args in
    let p = taken_in a.out.now a.words.now a.self a.wanted.now in
    let k = c.stars_from-first.result in
    let found = find_from_yields_List (λ j. not (p j)) c.find.new.self _ _ c.find.ensures.ran (YieldsList-from_range k a.count (a.count - k) refl refl) (λ x b q h. search (rules, tests)) in
    c.unwrap_or.ensures
    ∙ found_tries p (a.count - k) k c.find.result found (omega (arith, c.max.ensures))
    ∙ ap (λ (k : ℕ). tries (a.count - k) p k) c.stars_from-first.ensures
