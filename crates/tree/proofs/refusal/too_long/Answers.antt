use Rattle.std.proofs.Common.{rules, ◌≡◌}
use Rattle.definition.specs.Refusal.{long?}
use Rattle.definition.specs.declared.Unread.TheVariants.{Absent, Long}
use Rattle.tree.proofs.refusal.too_long.Goals as goal

pub returns-in-Err-Long : goal.returns-in-Err-Long
unfolding long?
returns-in-Err-Long g c = let e : c.in-Err-Long.field-0 ≡ Long = search rules in rw (c.in-Err-Long.is, e)

pub returns-in_default : goal.returns-in_default
unfolding long?
returns-in_default g c = let e : c.in_default.field-0 ≡ Absent = search rules in rw (c.in_default.is, e)

pub returns-in_default-2 : goal.returns-in_default-2
unfolding long?
returns-in_default-2 g c = rw c.in_default.is
