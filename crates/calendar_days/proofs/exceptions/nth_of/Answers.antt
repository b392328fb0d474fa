use Rattle.std.proofs.Common.{arith}
use Rattle.calendar_days.proofs.Elements.{nth_first, nth_no, nth_more}
use Rattle.calendar_days.proofs.exceptions.nth_of.Goals as goal

pub returns-in_default : goal.returns-in_default
returns-in_default c = nth_first c.args.first c.args.n (omega arith)

pub returns-in_err-first : goal.returns-in_err-first
returns-in_err-first c = nth_no c.args.first c.args.n c.in_err-first.was c.from_residual.ensures

pub returns : goal.returns
returns c = nth_more c.args.first c.args.n _ (omega arith) c.in_ok-first.was _ c.nth_next.ensures
