use Rattle.std.specs.Prelude.{if◌then◌else◌}
use Rattle.std.proofs.Common.{◌≡◌, Bool, true, ◌&&◌, T, sym, ap, ◌∙◌, subst}
use lib.Ieee.{Float, le, of_bits}
use lib.Ieee.Fits.{and_l, and_r}
use Rattle.definition.specs.Number.{half_away, zero_float}
use Rattle.number.specs.Floats.{float-10¹⁸}
use Rattle.number.proofs.Nearest.{cap, contained}
use Rattle.number.specs.Whole.{most, half_same}
use Rattle.number.proofs.Rounded.{half_is}
use Rattle.number.proofs.whole.half_within.Goals as goal
use Rattle.number.proofs.whole.half_within.Goals.{After-contains}

module _ (c : After-contains) where
  inside : c.contains.result ≡ (le zero_float c.args.x && le c.args.x cap)
  unfolding of_bits
  inside = c.contains.ensures.value ∙ contained c.args.x c.new.ensures.start c.new.ensures.end c.new.ensures.exhausted

  both : c.contains.result ≡ true → T (le zero_float c.args.x && le c.args.x cap)
  both t = subst T (sym t ∙ inside) tt

  low : c.contains.result ≡ true → T (le zero_float c.args.x)
  low t = and_l (le zero_float c.args.x) (le c.args.x cap) (both t)

  high : c.contains.result ≡ true → T (le c.args.x most)
  high t = subst (λ (m : Float). T (le c.args.x m)) (sym float-10¹⁸) (and_r (le zero_float c.args.x) (le c.args.x cap) (both t))

pub half_away-requires : goal.half_away-requires
unfolding of_bits
half_away-requires c = let before = (goal.at.half_away-requires c).After-contains in record { low = low before c.if-contains.true; high = high before c.if-contains.true }

pub returns-then-contains : goal.returns-then-contains
unfolding of_bits
returns-then-contains c =
    let before = (goal.at.returns-then-contains c).After-contains in
    c.half_away.ensures ∙ sym (half_same c.args.x (low before c.if-contains.true) (high before c.if-contains.true))

pub returns : goal.returns
unfolding of_bits
returns c =
    sym (half_is c.args.x ∙ ap (λ (t : Bool). if t then half_away c.args.x else 0) (sym (inside (goal.at.returns c).After-contains) ∙ c.if-contains.false))
