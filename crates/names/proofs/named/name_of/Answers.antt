-- `names::named::name_of` meets its contract. Assumes nothing.
use Rattle.std.proofs.Common.{◌≡◌, get_or, ap, ◌∙◌}
use Rattle.index.specs.Chains.{place_of}
use Rattle.pack.specs.Value.{name_meaning}
use Rattle.tree.specs.Place.{element_at}
use Rattle.names.specs.Context.{wanted_name}
use Rattle.names.specs.Named.{name_at, name_by}
use Rattle.names.proofs.named.name_of.Goals.{After-word}
use Rattle.names.proofs.named.name_of.Goals as goal

word_is : (c : After-word) → c.word.result ≡ get_or c.args.words.now (name_at c.args.t c.in_ok-r.r) 0
word_is c = rw c.name_at.ensures at c.word.ensures

pub returns-clause-is : goal.returns-clause-is
unfolding name_meaning
returns-clause-is c =
    let a = c.args in
    let name = wanted_name (element_at a.root.tree.now (place_of a.words.now a.t c.in_ok-r.r)) in
    rw (c.in_ok-r.was, c.part-calendar.ensures, c.place.ensures) (c.in_ok-stars.ensures name ∙ ap (name_by name) (word_is (goal.at.returns-clause-is c).After-word))

pub returns-in_err-stars-clause-is : goal.returns-in_err-stars-clause-is
unfolding name_meaning
returns-in_err-stars-clause-is c =
    let a = c.args in
    let name = wanted_name (element_at a.root.tree.now (place_of a.words.now a.t c.in_ok-r.r)) in
    rw (c.from_residual-in_err-stars.ensures, c.in_ok-r.was) (c.in_err-stars.ensures name ∙ ap (name_by name) (word_is (goal.at.returns-in_err-stars-clause-is c).After-word))
