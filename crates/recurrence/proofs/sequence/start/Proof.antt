use mathlib.Core.Path.{refl}
use Rattle.recurrence.proofs.Going.{starts}
use Rattle.recurrence.proofs.sequence.start.Statement.{statement}
use Rattle.recurrence.proofs.sequence.start.Tie as tie

returns : tie.Need-returns
returns c = (refl, starts c.before.args.r)

pub start_spec : {M : Type 1} → statement M
start_spec = tie.close (tie.spec returns)
