use Rattle.std.proofs.Common.{sym, ◌∙◌, rules, eq-eqb, ne_eqb}
use Rattle.text.specs.Signs.{minus_at}
use Rattle.number.proofs.Decimals.{not_one, not_all, all, power_none, power_down, power_up}
use Rattle.number.proofs.decimal.power_of.Goals as goal
use Rattle.number.proofs.decimal.power_of.Goals.{then-digits-eq0-via-then-digits-eq0, then-digits-eq0-via-else-digits-eq0+then-digits-t}

pub returns-then-digits-eq0 : goal.returns-then-digits-eq0
returns-then-digits-eq0 c =
    let t = c.without_sign-t in
    let r = c.run-digits.ensures in
    elim c.then-digits-eq0.branch [
      | then-digits-eq0-via-then-digits-eq0 w ↦ power_none c.args.s.now t.result.now t.ensures (not_one _ _ _ r w.if-digits-eq0.true)
      | then-digits-eq0-via-else-digits-eq0+then-digits-t w ↦ power_none c.args.s.now t.result.now t.ensures (not_all _ _ _ r w.if-digits-t.true)
    ]

pub returns-then-byte_at-eq45 : goal.returns-then-byte_at-eq45
returns-then-byte_at-eq45 c =
    let t = c.without_sign-t in
    let s = c.args.s.now in
    power_down s t.result.now t.ensures _ (all _ _ _ c.run-digits.ensures c.if-digits-eq0.false (search rules)) (sym (minus_at s _ c.byte_at.ensures) ∙ eq-eqb _ 45 c.if-byte_at-eq45.true)

pub returns : goal.returns
returns c =
    let t = c.without_sign-t in
    let s = c.args.s.now in
    power_up s t.result.now t.ensures _ (all _ _ _ c.run-digits.ensures c.if-digits-eq0.false (search rules)) (sym (minus_at s _ c.byte_at.ensures) ∙ ne_eqb _ 45 c.if-byte_at-eq45.false)
