use Rattle.definition.specs.Format.{dates}
use Rattle.model.specs.Rising.{day_of, day_before}
use Rattle.model.proofs.Several.{pass_flags}
use Rattle.model.proofs.parts.calendar_places.Goals as goal

pub returns : goal.returns
unfolding dates day_of day_before
returns c =
    record {
      name = c.skip_text-week.ensures;
      week = pass_flags 7 c.skip-hours.ensures;
      hours = c.skip_hours-holidays.ensures;
      holidays = c.skip_days-extra.ensures;
      extra = c.skip_days-exceptions.ensures;
    }
