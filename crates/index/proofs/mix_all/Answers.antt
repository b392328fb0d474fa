use mathlib.Core.Path.{sym, ◌∙◌}
use Rattle.laws.specs.Stars.{starred_by, star_length}
use Rattle.index.specs.Steps.{hash_none, hash_more}
use native.Mathlib.Omega.{arith}
use Rattle.index.proofs.mix_all.Goals as goal

pub loop-k-init : goal.loop-k-init
loop-k-init c =
    let a = c.args in
    (omega arith, sym (star_length a.s.now a.stars) ∙ hash_none (starred_by a.s.now a.stars))

pub loop-k-preserved : goal.loop-k-preserved
loop-k-preserved c =
    let a = c.args in
    (omega arith, hash_more (starred_by a.s.now a.stars) c.loop-k.k c.loop-k.invariant.1 c.starred_quad.ensures c.starred_quad-in-loop-k.ensures c.mix-h.ensures)
