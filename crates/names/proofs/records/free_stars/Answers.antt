use Rattle.std.proofs.Common.{ℕ, ◌-◌, ◌≡◌, length, rules, tests, refl, ap, ◌∙◌, arith}
use Rattle.std.specs.Prelude.{not}
use Rattle.std.proofs.lemmas.Iterator.{YieldsList-from_range}
use Rattle.std.proofs.lemmas.Iterator.Search.{find_from_yields_List}
use Rattle.definition.specs.Base.{some?, same}
use Rattle.pack.specs.Value.{starred_by}
use Rattle.names.specs.Stars.{tries, tries_free}
use Rattle.names.specs.Texts.{texts_at}
use Rattle.names.specs.Seen.{texts_length}
use Rattle.names.proofs.Starred.{found_tries}
use Rattle.names.proofs.records.free_stars.Goals as goal

pub returns : goal.returns
returns c =
    let a = c.args in
    let w = a.wanted.now in
    let ns = texts_at a.kind a.out.now a.p a.count in
    let p = λ (k : ℕ). some? (same (starred_by w k)) ns in
    let found = find_from_yields_List (λ j. not (p j)) c.find.new.self _ _ c.find.ensures.ran (YieldsList-from_range 0 a.count a.count refl (omega arith)) (λ x b q h. search (rules, tests)) in
    let n : a.count ≡ length ns - 0 = omega (arith, texts_length a.kind a.out.now a.p a.count) in
    ap (starred_by w) (c.unwrap_or.ensures ∙ found_tries p a.count 0 c.find.result found (omega arith))
    ∙ ap (λ (n : ℕ). starred_by w (tries n p 0)) n
    ∙ tries_free ns w p (λ k. refl) 0 (λ j h. absurd (omega arith))
