use Rattle.bits.proofs.Taking.{pad_yes, pad_no}
use Rattle.bits.proofs.reading.take_pad.Goals as goal

pub returns-then-f-eq0 : goal.returns-then-f-eq0
returns-then-f-eq0 c =
    let a = c.args in
    pad_yes a.s.now a.p _ c.to_byte.ensures c.take-f.ensures c.if-f-eq0.true

pub returns-else-f-eq0 : goal.returns-else-f-eq0
returns-else-f-eq0 c =
    let a = c.args in
    pad_no a.s.now a.p _ c.to_byte.ensures c.take-f.ensures c.if-f-eq0.false
