use Rattle.calendars.proofs.WeekHours.{hours_copied}
use Rattle.calendars.proofs.record.copy_hours.Goals as goal

pub returns : goal.returns
returns c = hours_copied c.skip_hours-from.ensures c.skip_periods-to.ensures c.copy_bits.ensures
