use Rattle.std.proofs.Common.{Some, length, length-drop, ap, arith}
use Rattle.calendar_days.specs.Exceptions.{items_from}
use Rattle.calendar_days.proofs.Elements.{from_one, from_none}
use Rattle.calendar_days.proofs.exceptions.count_of.Goals as goal

pub overflow_add-n : goal.overflow_add-n
overflow_add-n c = omega (arith, c.loop-next.invariant, c.requires, ap (λ o. length (items_from o)) c.in-Some.is, ap length (from_one c.in-Some.x))

pub loop-next-preserved : goal.loop-next-preserved
loop-next-preserved c =
    omega (arith, c.loop-next.invariant, ap (λ o. length (items_from o)) c.in-Some.is, ap length (from_one c.in-Some.x), ap length c.nth_next-next.ensures, length-drop 1 (items_from (Some c.in-Some.x)))

pub loop-next-smaller : goal.loop-next-smaller
loop-next-smaller c =
    omega (arith, ap (λ o. length (items_from o)) c.in-Some.is, ap length (from_one c.in-Some.x), ap length c.nth_next-next.ensures, length-drop 1 (items_from (Some c.in-Some.x)))

pub returns : goal.returns
returns c = omega (arith, c.loop-next.invariant, ap length (from_none c.in_default.is))
