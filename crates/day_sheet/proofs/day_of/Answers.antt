use Rattle.day_sheet.proofs.Whole.{lists_of}
use Rattle.day_sheet.proofs.day_of.Goals as goal

pub returns : goal.returns
returns c =
    λ d e w k h.
    let t = lists_of c.calendar_places-c.ensures h in
    record {
      weekday = w;
      holiday = c.has_date-holiday.ensures d e k.holidays t.holidays;
      extra = c.has_date-extra.ensures d e k.extra_days t.extra;
      hours = c.first_given-hours.ensures _ _ (c.exception_place-own.ensures d e k.exceptions t.exceptions) (t.usual d c.skip_hours-usual.result (rw w at c.skip_hours-usual.ensures));
    }
