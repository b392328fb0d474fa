use Rattle.bits.specs.Steps.{put_code, put_same}
use Rattle.pack.proofs.value.put_code.Goals as goal

pub returns : goal.returns
returns c =
    λ lo hi. put_code lo hi (put_same c.from.ensures c.put.ensures)
