use Rattle.std.proofs.Common.{ap}
use Rattle.definition.specs.Text.{Text}
use Rattle.tree.specs.Place.{meaning}
use Rattle.bits.specs.Steps.{put_same}
use Rattle.calendar.specs.Week.{flags_in}
use Rattle.pack.specs.Value.{starred_by}
use Rattle.calendar_days.specs.Lists.{days_over}
use Rattle.calendars.proofs.Overs.{over_days}
use Rattle.calendars.proofs.WeekHours.{calendar_over}
use Rattle.calendars.proofs.record.Entry.put.Goals as goal

pub returns : goal.returns
returns c =
    let k = c.args.self in
    let e = meaning k.calendar in
    record {
      written = calendar_over e k.stars (put_same (ap (λ (t : Text). starred_by t k.stars) c.calendar_text.ensures) c.put-a.ensures) c.base_week.ensures c.week_of-week.ensures c.put_week-b.ensures c.put_hours-c.ensures (over_days k.base (days_over e (flags_in _)) c.days_place.ensures c.put_days-d.ensures.puts) c.pad.ensures;
      kept = c.put_days-d.ensures.kept;
    }
