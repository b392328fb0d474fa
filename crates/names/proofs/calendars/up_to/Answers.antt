-- `names::calendars::up_to` meets its contract. Assumes nothing.
use native.Mathlib.Omega.{arith}
use Rattle.names.proofs.Found.{up_not, up_is, up_rest, up_by}
use Rattle.names.proofs.calendars.up_to.Goals as goal

pub returns-then-p-gt7 : goal.returns-then-p-gt7
returns-then-p-gt7 c = up_not c.args.p c.args.q (λ b. absurd (omega (arith, c.if-p-gt7.true)))

pub returns-then-p-q : goal.returns-then-p-q
returns-then-p-q c = up_is c.args.p c.args.q (omega (arith, c.if-p-gt7.false)) (omega (arith, c.if-p-gt7.false, c.if-p-q.true))

pub returns-then-q-d : goal.returns-then-q-d
returns-then-q-d c = up_not c.args.p c.args.q (λ b. omega (arith, c.if-p-gt7.false, c.if-p-q.false, c.if-q-d.true))

pub returns : goal.returns
returns c = up_by c.args.p c.args.q _ (omega (arith, c.if-p-gt7.false)) (up_rest c.args.p c.args.q (omega (arith, c.if-p-q.false)) (omega (arith, c.if-q-d.false)))
