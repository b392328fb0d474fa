use Rattle.std.proofs.Common.{◌≡◌, sym, ap, ◌∙◌, length, arith, rules}
use lib.Ieee.{of_bits}
use Rattle.definition.specs.Duration.{is_d}
use Rattle.number.proofs.Parts.{cut_length}
use Rattle.number.proofs.Figures.{no_days, some_days, bad_days}
use Rattle.number.proofs.duration.days_of.Goals as goal

pub returns-then-is_empty : goal.returns-then-is_empty
unfolding of_bits
returns-then-is_empty c = sym (no_days c.args.s.now (search rules))

pub returns-in_default : goal.returns-in_default
returns-in_default c = bad_days c.args.s.now (search rules) (λ e. omega (arith, e, ap length c.in_default.ensures.0))

pub returns-then-is_empty-2 : goal.returns-then-is_empty-2
returns-then-is_empty-2 c = c.piece_of.ensures ∙ some_days c.args.s.now _ _ (search rules) c.in-Some.ensures.0 c.in-Some.ensures.1 (search rules)

pub returns : goal.returns
returns c =
    let n : length c.in-Some.rest.now ≡ 0 → ⊥ = search rules in
    bad_days c.args.s.now (search rules) (λ e. omega (arith, e, n, cut_length is_d c.args.s.now _ c.in-Some.ensures.1))
