use Rattle.bits.specs.Steps.{put_same}
use Rattle.calendars.proofs.PlainCalendars.{put_week}
use Rattle.calendars.proofs.plain.put_week.Goals as goal

pub returns : goal.returns
returns c = put_week c.args.week (put_same c.from.ensures c.put.ensures)
