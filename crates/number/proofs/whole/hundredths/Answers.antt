use Rattle.std.proofs.Common.{sym, ap, ◌∙◌, w64}
use lib.Ieee.{Float, mul, binary64, of_bits}
use mir.ValLaws.{to_z-of_z}
use Rattle.number.specs.Floats.{float_100}
use Rattle.number.specs.Whole.{whole_within}
use Rattle.number.proofs.whole.hundredths.Goals as goal

pub returns : goal.returns
unfolding of_bits
returns c =
    to_z-of_z w64 c.nearest_whole.result (record { sfits = c.nearest_whole.type_inv })
    ∙ c.nearest_whole.ensures
    ∙ sym (ap (λ (y : Float). whole_within (mul binary64 c.args.x y)) float_100)
