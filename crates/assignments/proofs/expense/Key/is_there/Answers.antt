use Rattle.std.proofs.Common.{◌<◌, ◌≤◌, arith}
use Rattle.assignments.proofs.Expenses.{seeks_more, seeks_found, seeks_none}
use Rattle.assignments.proofs.expense.Key.is_there.Goals as goal

pub returns-then-is_at : goal.returns-then-is_at
returns-then-is_at c = let lt : c.loop.counter < c.args.count = omega arith in seeks_found c.loop.invariant.1 lt c.skip_record-next.ensures.0 c.is_at.ensures c.if-is_at.true

pub loop-preserved : goal.loop-preserved
loop-preserved c = let lt : c.loop.counter < c.args.count = omega arith in (omega arith, seeks_more c.loop.invariant.1 lt c.skip_record-next.ensures.0 c.is_at.ensures c.if-is_at.false)

pub returns : goal.returns
returns c = let le : c.args.count ≤ c.loop.counter = omega arith in seeks_none c.loop.invariant.1 le
