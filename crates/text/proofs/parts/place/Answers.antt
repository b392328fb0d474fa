use Rattle.std.proofs.Common.{rules, tests, ◌≡◌, eqb, length, ◌∙◌, ap, ℕ, Option}
use Rattle.std.specs.List.{position}
use Rattle.std.specs.Option.{unwrap_or}
use Rattle.std.proofs.lemmas.Iterator.{YieldsList-from_slice}
use Rattle.std.proofs.lemmas.Iterator.Search.{position_from_yields_List}
use Rattle.text.specs.Cut.{place_found}
use Rattle.text.proofs.parts.place.Goals as goal

pub returns : goal.returns
returns c =
    let s = c.args.s.now in
    let found : c.position.result ≡ position (eqb c.args.b) s = position_from_yields_List (eqb c.args.b) _ _ c.position.result c.position.ensures.ran (YieldsList-from_slice s c.iter.ensures.rest) (λ x b q k. search (rules, tests)) in
    c.unwrap_or.ensures ∙ ap (λ (o : Option ℕ). unwrap_or o (length s)) found ∙ place_found (eqb c.args.b) s
