use Rattle.std.proofs.Common.{rules, tests, ◌≡◌, ap, ◌∙◌}
use Rattle.definition.specs.Base.{◌>>=◌, when, within}
use Rattle.date.specs.Answer.{placed}
use Rattle.date.proofs.Signs.{back, summed}
use Rattle.date.proofs.place.Goals as goal

pub returns : goal.returns
returns c =
    let a = c.args in
    let e : c.filter.result ≡ (c.checked_add_signed.result >>= λ k. when (within a.first a.last k) k) = search (rules, tests) in
    e ∙ summed a.from a.first a.last c.ranges.last.fits _ _ c.checked_add_signed.ensures ∙ ap (placed a.from a.first a.last) (back a.n c.ranges.n)
