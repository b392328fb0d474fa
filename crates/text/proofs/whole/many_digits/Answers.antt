use Rattle.std.proofs.Common.{◌≡◌, ◌+◌, ◌*◌, ℕ, sym, ap, ◌∙◌, arith}
use lib.ListN.{drop}
use Rattle.text.specs.Whole.{digits_to}
use Rattle.text.proofs.Digits.{next, too_large, past_next, all_read}
use Rattle.text.proofs.whole.many_digits.Goals as goal

pub returns-in_err-checked_mul : goal.returns-in_err-checked_mul
returns-in_err-checked_mul c = c.from_residual.ensures ∙ sym (c.loop-b.invariant.1 ∙ too_large c.args.most c.args.s.now c.loop-b.b-index c.loop-b.n c.loop-b-test.true (omega (arith, c.ranges.most.fits, c.in_err-checked_mul.ensures)))

pub returns-in_err-digit : goal.returns-in_err-digit
returns-in_err-digit c = c.from_residual-in_err-digit.ensures ∙ sym (c.loop-b.invariant.1 ∙ next c.args.most c.args.s.now c.loop-b.b-index c.loop-b.n c.loop-b-test.true c.in_err-digit.ensures)

pub returns-in_err-n : goal.returns-in_err-n
returns-in_err-n c =
    let s = c.args.s.now in
    let i = c.loop-b.b-index in
    c.from_residual-in_err-n.ensures
    ∙ sym
    (c.loop-b.invariant.1 ∙ next c.args.most s i c.loop-b.n c.loop-b-test.true c.in_ok-digit.ensures ∙ past_next c.args.most s i c.loop-b.n _ (omega (arith, c.ranges.most.fits, c.in_ok-checked_mul.ensures, c.in_err-n.ensures)))

pub returns-then-most-n : goal.returns-then-most-n
returns-then-most-n c =
    let s = c.args.s.now in
    let i = c.loop-b.b-index in
    sym
    (c.loop-b.invariant.1 ∙ next c.args.most s i c.loop-b.n c.loop-b-test.true c.in_ok-digit.ensures ∙ past_next c.args.most s i c.loop-b.n _ (omega (arith, c.in_ok-checked_mul.ensures, c.in_ok-n.ensures, c.if-most-n.true)))

pub loop-b-preserved : goal.loop-b-preserved
loop-b-preserved c =
    let s = c.args.s.now in
    let i = c.loop-b.b-index in
    let e : c.loop-b.n * 10 + c.in_ok-digit.field-0 ≡ c.in_ok-n.n = omega (arith, c.in_ok-checked_mul.ensures, c.in_ok-n.ensures) in
    (omega (arith, c.if-most-n.false), c.loop-b.invariant.1 ∙ next c.args.most s i c.loop-b.n c.loop-b-test.true c.in_ok-digit.ensures ∙ ap (λ (n : ℕ). digits_to c.args.most n (drop (i + 1) s)) e)

pub returns : goal.returns
returns c = sym (c.loop-b.invariant.1 ∙ all_read c.args.most c.args.s.now c.loop-b.b-index c.loop-b.n (omega arith) (omega arith))
