use native.Mathlib.Omega.{arith}
use Rattle.model.proofs.Single.{lag_high, lag_percent, lag_plain}
use Rattle.model.proofs.fields.skip_lag_kind.Goals as goal

pub returns-in-0 : goal.returns-in-0
returns-in-0 c = lag_plain c.args.s.now c.args.p c.take-k.ensures (omega arith) (omega arith)

pub returns-in-2 : goal.returns-in-2
returns-in-2 c = lag_percent c.args.s.now c.args.p c.take-k.ensures (omega arith) c.skip.ensures

pub returns-in_default : goal.returns-in_default
returns-in_default c = lag_high c.args.s.now c.args.p c.take-k.ensures (omega arith)
