use Rattle.std.proofs.Common.{arith}
use Rattle.number.proofs.Writing.{put_one, put_past}
use Rattle.number.proofs.write.put.Goals as goal

pub returns-then-at-out : goal.returns-then-at-out
returns-then-at-out c = put_past c.args.out.now c.args.at c.args.b c.if-at-out.true

pub returns : goal.returns
returns c = put_one c.args.out.now c.args.at c.args.b (omega arith)
