use Rattle.bits.specs.Steps.{put_same}
use Rattle.calendars.proofs.Builts.{default_put}
use Rattle.calendars.proofs.PlainCalendars.{default_is}
use Rattle.calendars.proofs.built.or_default.Goals as goal

pub returns-then-done-eq0 : goal.returns-then-done-eq0
returns-then-done-eq0 c = rw c.more.ensures (default_put c.if-done-eq0.true (put_same default_is c.put_plain_calendar-next.ensures))
