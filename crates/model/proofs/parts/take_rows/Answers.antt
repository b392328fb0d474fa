use Rattle.model.proofs.Single.{rows_are}
use Rattle.model.proofs.parts.take_rows.Goals as goal

pub returns : goal.returns
returns c = let a = c.args in rw (c.unwrap_or.ensures, c.then_some-rows.ensures) (rows_are a.s.now a.p c.take_u32-a.ensures c.take_u32-b.ensures)
