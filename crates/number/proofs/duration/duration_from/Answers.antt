-- what was tested is the total
use Rattle.std.proofs.Common.{◌≡◌, Bool, true, false, T, sym, ap, ◌∙◌, subst, arith}
use lib.Ieee.{Float, of_bits, of_int, le, eq}
use Rattle.definition.specs.Number.{zero_float, float, half_away}
use Rattle.number.specs.Whole.{most}
use Rattle.number.proofs.Totals.{billion, total_least, within, minutes_small, duration_is, duration_none}
use Rattle.number.proofs.duration.duration_from.Goals as goal

told : (x y : Float) (b : Bool) → x ≡ y → le x billion ≡ b → le y billion ≡ b
told x y b e h = subst (λ (z : Float). le z billion ≡ b) e h

pub half_away-minutes-requires : goal.half_away-minutes-requires
unfolding of_bits
half_away-minutes-requires c =
    let f = c.args.f in
    let e = c.total_of-total.ensures in
    record {
      low = subst (λ (x : Float). T (le zero_float x)) (sym e) (total_least f c.requires);
      high = subst (λ (x : Float). T (le x most)) (sym e) (within f c.requires (told _ _ true e c.if-total.true));
    }

pub overflow_cast-minutes : goal.overflow_cast-minutes
unfolding of_bits
overflow_cast-minutes c =
    let f = c.args.f in
    let t = told _ _ true c.total_of-total.ensures c.if-total.true in
    let n = c.half_away-minutes.ensures ∙ ap half_away c.total_of-total.ensures in
    omega (arith, n, minutes_small f c.requires t)

pub returns-then-total : goal.returns-then-total
unfolding of_bits of_int
returns-then-total c =
    let x = c.total_of-total in
    let t = told _ _ true x.ensures c.if-total.true in
    duration_is c.args.f c.requires t
    (c.half_away-minutes.ensures ∙ ap half_away x.ensures)
    (ap (λ (y : Float). eq c.total_of-total.result y) c.from-rounded.ensures ∙ ap (λ (y : Float). eq y (float c.half_away-minutes.result)) x.ensures)

pub returns : goal.returns
unfolding of_bits
returns c =
    let f = c.args.f in
    sym (duration_none f (told _ _ false c.total_of-total.ensures c.if-total.false))
