-- `index::starred_quad` meets its contract. Inside the text it is read at once. Assumes nothing.
use mathlib.Core.Path.{◌∙◌}
use Rattle.laws.specs.Stars.{starred_by}
use Rattle.index.specs.Steps.{quad_by, quad_before}
use native.Mathlib.Omega.{arith}
use Rattle.index.proofs.starred_quad.Goals as goal

pub returns-then-i-s : goal.returns-then-i-s
returns-then-i-s c =
    let a = c.args in
    c.quad.ensures ∙ quad_before a.s.now a.stars a.i c.if-i-s.true

pub returns : goal.returns
returns c =
    let a = c.args in
    quad_by (starred_by a.s.now a.stars) a.i (omega (arith, c.from_le_bytes.ensures)) c.starred-a.ensures c.starred-b.ensures c.starred-c.ensures c.starred-d.ensures
