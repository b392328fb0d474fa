use Rattle.std.proofs.Common.{sym, ◌∙◌, arith, rules}
use Rattle.number.proofs.Held.{read_none, read_more}
use Rattle.number.proofs.decimal.run.Goals as goal

pub loop-end-init : goal.loop-end-init
loop-end-init c = (search rules, read_none _ _ _)

pub loop-end-preserved : goal.loop-end-preserved
loop-end-preserved c =
    let a = c.args in
    let e = c.loop-end in
    let d = sym c.is_ascii_digit.ensures.value ∙ c.if-not-is_ascii_digit.false in
    (omega (arith, c.with_digit-value.ensures), read_more a.s.now a.from a.v e.end e.value c.with_digit-value.result e.auto.end c.loop-end-test.true d c.with_digit-value.ensures e.invariant.1)
