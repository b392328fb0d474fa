use Rattle.definition.specs.Calendar.{by_date}
use Rattle.definition.specs.Format.{◌⊗◌, date, periods}
use Rattle.bits.specs.Steps.{put-⊗, put_whole}
use Rattle.calendar_days.proofs.Inserts.{put_empty}
use Rattle.calendars.proofs.PlainCalendars.{put_calendar, no_dates}
use Rattle.calendars.proofs.plain.put_plain_calendar.Goals as goal

pub returns : goal.returns
returns c =
    put_whole (put_calendar _ (put-⊗ c.put_text-a.ensures (put-⊗ c.put_week-b.ensures (put-⊗ c.put_hours-c.ensures (put-⊗ (no_dates c.put_count-d.ensures) (put-⊗ (no_dates c.put_count-e.ensures) (put_empty by_date (date ⊗ periods) c.put_count-f.ensures))))))) c.pad.ensures
