-- `index::hash_starred` meets its contract. What the calls give together is the definition. Assumes nothing.
use Rattle.laws.specs.Stars.{starred_by, star_length}
use Rattle.index.specs.Steps.{hash_done}
use Rattle.index.proofs.hash_starred.Goals as goal

pub returns : goal.returns
returns c =
    let x = c.args in
    hash_done
    (starred_by x.s.now x.stars)
    (star_length x.s.now x.stars)
    c.saturating_sub.ensures
    c.saturating_sub-2.ensures
    c.saturating_sub-3.ensures
    c.mix_all-h.ensures
    c.starred_quad-a.ensures
    c.starred_quad-b.ensures
    c.mix.ensures
