use Rattle.std.proofs.Common.{sym, ◌∙◌, arith}
use lib.ListN.{get_or}
use Rattle.text.proofs.Digits.{digit_most, grows, small, next, at_end}
use Rattle.text.proofs.whole.few_digits.Goals as goal

pub overflow_mul-n : goal.overflow_mul-n
overflow_mul-n c = omega (arith, small c.loop-b.n c.loop-b.b-index c.loop-b.invariant.0 (omega arith))

pub returns-in_err-n : goal.returns-in_err-n
returns-in_err-n c = c.from_residual.ensures ∙ sym (c.loop-b.invariant.1 ∙ next c.args.most c.args.s.now c.loop-b.b-index c.loop-b.n c.loop-b-test.true c.in_err-n.ensures)

pub overflow_add-n : goal.overflow_add-n
overflow_add-n c = omega (arith, small c.loop-b.n c.loop-b.b-index c.loop-b.invariant.0 (omega arith), digit_most (get_or c.args.s.now c.loop-b.b-index 0) c.in_ok-n.ensures)

pub loop-b-preserved : goal.loop-b-preserved
loop-b-preserved c =
    let s = c.args.s.now in
    let i = c.loop-b.b-index in
    (grows c.loop-b.n i _ c.loop-b.invariant.0 (digit_most (get_or s i 0) c.in_ok-n.ensures), c.loop-b.invariant.1 ∙ next c.args.most s i c.loop-b.n c.loop-b-test.true c.in_ok-n.ensures)

pub returns : goal.returns
returns c = c.then_some.ensures ∙ sym (c.loop-b.invariant.1 ∙ at_end c.args.most c.args.s.now c.loop-b.b-index c.loop-b.n (omega arith))
