use Rattle.std.proofs.Common.{◌≡◌, ◌%◌, ◌+◌, ◌^◌, ◌<◌, List, length, ap, ◌∙◌, arith}
use Rattle.std.specs.Prelude.{Some}
use Rattle.definition.specs.Base.{◌>>=◌, when}
use Rattle.definition.specs.Tree.{Element}
use Rattle.definition.specs.Task.{row_of}
use Rattle.rows.specs.Tables.{elements_left}
use Rattle.rows.proofs.Lasts.{within_begin, row_turn, row_end}
use Rattle.rows.proofs.Listing.{listed_most}
use Rattle.rows.proofs.table.scan.Goals.{After-into_iter-n-iterator}
use Rattle.rows.proofs.table.scan.Goals as goal

all_left : (c : After-into_iter-n-iterator) → elements_left c.into_iter-n-iterator.result.iter ≡ elements_left c.elements.result
all_left c = ap (λ k. elements_left k.iter) c.into_iter-n-iterator.ensures.into_iter_gives ∙ ap elements_left c.enumerate-n-items.ensures.source

pub loop-n-init : goal.loop-n-init
loop-n-init c =
    let begun = ap (λ k. k.count) c.into_iter-n-iterator.ensures.into_iter_gives ∙ c.enumerate-n-items.ensures.count in
    let few : c.into_iter-n-iterator.result.count + length (elements_left c.into_iter-n-iterator.result.iter) < 2 ^ 64 =
    omega (arith, begun, ap length (all_left c ∙ c.elements.ensures.is), listed_most c.args.root c.args.list, c.well_formed) in
    (within_begin (2 ^ 32) _ _ begun, few)

pub loop-n-preserved : goal.loop-n-preserved
loop-n-preserved c =
    let turn = c.in-Some.ensures.steps in
    let named = c.then_some-named.ensures ∙ ap (λ n. when c.text_is.result (n % 2 ^ 32)) turn.1 in
    let few : c.next.new.self.count + length (elements_left c.next.new.self.iter) < 2 ^ 64 = omega (arith, ap length turn.0.0, turn.2, c.loop-n.invariant.1) in
    (row_turn c.loop-n.invariant.0 turn.0.0 c.text_is.ensures named c.or-found.ensures turn.2, few)

pub returns : goal.returns
returns c =
    row_end c.loop-n.invariant.0 c.in-None.ensures.steps.0.0
    ∙ ap (λ (es : List Element). row_of es c.args.uid.now >>= λ n. Some (n % 2 ^ 32)) (all_left (goal.at.returns c).After-into_iter-n-iterator ∙ c.elements.ensures.is)
