use Rattle.std.proofs.Common.{ℕ, ◌<◌, ◌≤◌, length, List, ◌∙◌, subst}
use lib.Seq.{take_all}
use Rattle.std.proofs.lemmas.List.{take_more}
use Rattle.definition.specs.Format.{times, count}
use Rattle.bits.specs.Steps.{Puts, put_no, put_more}
use Rattle.pack.proofs.RecordBits.{put_six}
use Rattle.pack.proofs.record.put_counts.Goals as goal

pub loop-count-init : goal.loop-count-init
loop-count-init c = put_no 6 count c.args.out.now c.args.p

pub loop-count-preserved : goal.loop-count-preserved
loop-count-preserved c =
    let items = c.each-count-items.result in
    let i = c.loop-count.count-index in
    let l : i < length items = rw c.each-count-items.ensures c.loop-count-test.true in
    rw (take_more items i 0 l) (put_more 6 c.loop-count.invariant c.put_count-next.ensures)

pub returns : goal.returns
returns c =
    let items = c.each-count-items.result in
    let i = c.loop-count.count-index in
    let l : length items ≤ i = rw c.each-count-items.ensures c.loop-count-test.false in
    put_six c.args.n (subst (λ (xs : List ℕ). Puts (times 6 count) xs c.args.out.now c.args.p c.loop-count.out c.loop-count.next) (take_all i items l ∙ c.each-count-items.ensures) c.loop-count.invariant)
