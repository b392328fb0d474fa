use Rattle.std.proofs.Common.{◌≡◌, length, replicate}
use Rattle.definition.specs.Format.{periods, times}
use Rattle.bits.specs.Steps.{Puts}
use Rattle.calendars.specs.Plain.{hours_each}
use Rattle.calendars.proofs.plain.put_hours.Given as goal

abbrev pub invariant-loop : goal.invariant-loop
invariant-loop l = (length l.out ≡ length l.initial.out) × Puts (times 7 periods) (replicate l.counter (hours_each l.hours)) l.initial.out l.initial.q l.out l.q
