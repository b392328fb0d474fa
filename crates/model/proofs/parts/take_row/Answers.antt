use borrow.Author.Tests.{not-true, not-false}
use Rattle.model.proofs.Single.{row_missing, row_read}
use Rattle.model.proofs.parts.take_row.Goals as goal

pub returns-then-not-f : goal.returns-then-not-f
returns-then-not-f c = let a = c.args in row_missing a.s.now a.p c.take_flag-f.ensures (not-true _ c.if-not-f.true)

pub returns : goal.returns
returns c = let a = c.args in rw c.then_some.ensures (row_read a.s.now a.p c.take_flag-f.ensures (not-false _ c.if-not-f.false) c.take_u32-value.ensures)
