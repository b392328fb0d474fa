use Rattle.std.proofs.Common.{arith}
use Rattle.calendar.specs.Week.{flags_in}
use Rattle.calendar.proofs.Flags.{seven, set_past, replaced_is}
use Rattle.calendar.proofs.week.with_flag.Goals as goal

pub returns-then-k-gt6 : goal.returns-then-k-gt6
returns-then-k-gt6 c =
    set_past (flags_in c.args.week) c.args.k c.args.on (omega (arith, seven c.args.week, c.if-k-gt6.true))

pub returns : goal.returns
returns c =
    replaced_is c.args.week c.args.k _ _ c.args.on (omega (arith, c.if-k-gt6.false)) c.low.ensures c.with_bit.ensures
