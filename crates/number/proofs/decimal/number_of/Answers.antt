use Rattle.std.proofs.Common.{sym, ap, ◌∙◌, eq-eqb, ne_eqb}
use Rattle.std.proofs.lemmas.Result.{err_from_is_err_and}
use Rattle.definition.specs.Text.{Text}
use Rattle.definition.specs.Number.{magnitude, decimal_of, negated}
use Rattle.text.specs.Signs.{minus_at}
use Rattle.number.proofs.Decimals.{number_minus, number_other, number_error}
use Rattle.number.proofs.decimal.number_of.Goals as goal

pub returns-in_err-x : goal.returns-in_err-x
returns-in_err-x c =
    let p = err_from_is_err_and c.from_residual.result c.from_residual.ensures.1 in
    rw (p.1, p.2) (number_error _ _ (sym (sym c.in_err-x.was ∙ c.unsigned.ensures ∙ ap (λ (t : Text). magnitude (decimal_of t)) c.without_sign.ensures)))

pub returns-then-byte_at-eq45 : goal.returns-then-byte_at-eq45
returns-then-byte_at-eq45 c =
    let s = c.args.s.now in
    ap negated (sym c.in_ok-x.was ∙ c.unsigned.ensures ∙ ap (λ (t : Text). magnitude (decimal_of t)) c.without_sign.ensures)
    ∙ number_minus s (sym (minus_at s _ c.byte_at.ensures) ∙ eq-eqb _ 45 c.if-byte_at-eq45.true)

pub returns : goal.returns
returns c =
    let s = c.args.s.now in
    sym c.in_ok-x.was
    ∙ c.unsigned.ensures
    ∙ ap (λ (t : Text). magnitude (decimal_of t)) c.without_sign.ensures
    ∙ number_other s (sym (minus_at s _ c.byte_at.ensures) ∙ ne_eqb _ 45 c.if-byte_at-eq45.false)
