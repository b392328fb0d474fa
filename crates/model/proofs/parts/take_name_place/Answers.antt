use borrow.Author.Tests.{not-true, not-false}
use Rattle.model.proofs.Single.{name_missing, name_read}
use Rattle.model.proofs.parts.take_name_place.Goals as goal

pub returns-then-not-f : goal.returns-then-not-f
returns-then-not-f c = let a = c.args in name_missing a.s.now a.p c.take_flag-f.ensures (not-true _ c.if-not-f.true)

pub returns : goal.returns
returns c = let a = c.args in rw c.then_some.ensures (name_read a.s.now a.p c.take_flag-f.ensures (not-false _ c.if-not-f.false) c.take_text-start.ensures)
