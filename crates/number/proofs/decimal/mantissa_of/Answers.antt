use Rattle.std.proofs.Common.{◌^◌, ◌<◌, length, sym, ◌∙◌, arith}
use Rattle.number.proofs.Parts.{byte_within}
use Rattle.number.proofs.Decimals.{number_whole, number_dot}
use Rattle.number.proofs.decimal.mantissa_of.Goals as goal

pub returns-then-byte_at-eq46 : goal.returns-then-byte_at-eq46
returns-then-byte_at-eq46 c =
    let r = c.run-whole in
    let s = c.args.s.now in
    let small : length s < 2 ^ 63 = omega (arith, c.well_formed) in
    let e = sym c.byte_at.ensures ∙ c.if-byte_at-eq46.true in
    let w = c.run-all.ensures in
    let l = w.inside in
    record { inside = l; few = omega arith; number = number_dot s small _ _ r.ensures (byte_within s _ 45 e) e _ _ w }

pub returns : goal.returns
returns c =
    let r = c.run-whole in
    let s = c.args.s.now in
    let small : length s < 2 ^ 63 = omega (arith, c.well_formed) in
    record { inside = r.ensures.inside; few = omega arith; number = number_whole s small _ _ r.ensures (λ e. c.if-byte_at-eq46.false (c.byte_at.ensures ∙ e)) }
