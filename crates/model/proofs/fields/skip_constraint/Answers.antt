use native.Mathlib.Omega.{arith}
use Rattle.model.proofs.Single.{constraint_low, constraint_high, constraint_alone, constraint_dated}
use Rattle.model.proofs.fields.skip_constraint.Goals as goal

pub returns-in-1 : goal.returns-in-1
returns-in-1 c = constraint_alone c.args.s.now c.args.p c.take-k.ensures (omega arith)

pub returns-in-2-to-7 : goal.returns-in-2-to-7
returns-in-2-to-7 c = constraint_dated c.args.s.now c.args.p c.take-k.ensures (omega arith) (omega arith) (omega arith) c.skip_date.ensures

pub returns-in_default : goal.returns-in_default
returns-in_default c = constraint_low c.args.s.now c.args.p c.take-k.ensures (omega arith)

pub returns-in_default-2 : goal.returns-in_default-2
returns-in_default-2 c = constraint_high c.args.s.now c.args.p c.take-k.ensures (omega arith)
