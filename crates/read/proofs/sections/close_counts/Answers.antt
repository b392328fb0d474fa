use Rattle.std.proofs.Common.{drop_of_length-le, ◌<◌, ◌≤◌, ℕ, List, length, drop, subst}
use Rattle.read.proofs.Closing.{Closing, closing_more, closing_all, left_next}
use Rattle.read.proofs.sections.close_counts.Goals as goal

pub loop-count-preserved : goal.loop-count-preserved
loop-count-preserved c =
    let ns = c.each-count-items.result in
    let i : c.loop-count.count-index < length ns = rw c.each-count-items.ensures c.loop-count-test.true in
    closing_more (left_next ns c.loop-count.count-index i) c.loop-count.invariant (rw c.from.ensures at c.overwrite-p.ensures)

pub returns : goal.returns
returns c =
    let ns = c.each-count-items.result in
    let i = c.loop-count.count-index in
    let l : length ns ≤ i = rw c.each-count-items.ensures c.loop-count-test.false in
    closing_all c.args.n (subst (λ (ks : List ℕ). Closing ks (drop i ns) c.args.out.now c.loop-count.out c.loop-count.p) c.each-count-items.ensures c.loop-count.invariant) (drop_of_length-le ns l)
