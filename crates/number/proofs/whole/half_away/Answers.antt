use Rattle.std.proofs.Common.{T, ◌∙◌, subst}
use lib.Ieee.{Float, le, fits, binary64}
use denote.Floats.{passes}
use Rattle.definition.specs.Number.{half_away}
use Rattle.number.specs.Floats.{float-10¹⁸}
use Rattle.number.proofs.Nearest.{Cut, rounded}
use Rattle.number.proofs.whole.half_away.Goals as goal
use Rattle.number.proofs.whole.half_away.Goals.{After-round}

cut : (c : After-round) → Cut c.round.result (half_away c.args.x)
cut c =
    let x = c.args.x in
    rw c.round.ensures (rounded x (passes (fits binary64 x) c.well_formed.0.1) c.requires.low (subst (λ (m : Float). T (le x m)) float-10¹⁸ c.requires.high))

pub truncating_f64_to_u64-requires : goal.truncating_f64_to_u64-requires
truncating_f64_to_u64-requires c = record { lower_bound = (cut c).low; upper_bound = (cut c).high }

pub returns : goal.returns
returns c = c.truncating_f64_to_u64.ensures ∙ (cut (goal.at.returns c).After-round).is
