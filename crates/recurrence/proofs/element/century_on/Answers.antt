use Rattle.recurrence.proofs.Fields.{last_on, last_past}
use Rattle.recurrence.proofs.element.century_on.Goals as goal

pub returns-then-from : goal.returns-then-from
returns-then-from c = last_on _ _ c.if-from.true

pub returns-else-from : goal.returns-else-from
returns-else-from c = last_past _ _ c.if-from.false
