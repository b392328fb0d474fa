use Rattle.std.proofs.Common.{refl, ◌∙◌}
use Rattle.definition.specs.Format.{periods}
use Rattle.bits.specs.Steps.{put_no}
use Rattle.calendars.proofs.PlainCalendars.{put_again}
use Rattle.calendars.proofs.plain.put_hours.Goals as goal

pub loop-init : goal.loop-init
loop-init c = (refl, put_no 7 periods _ _)

pub loop-preserved : goal.loop-preserved
loop-preserved c = (c.put_day_hours-q.auto.out ∙ c.loop.invariant.0, put_again 7 periods c.loop.counter c.loop.invariant.1 c.put_day_hours-q.ensures)
