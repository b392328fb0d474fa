use Rattle.model.specs.Parts.{calendar_parts}
use Rattle.model.specs.Passes.{◌⨾◌, ended}
use Rattle.model.specs.Rising.{day_of, day_before}
use Rattle.model.proofs.Several.{pass_flags}
use Rattle.definition.specs.Format.{dates}
use Rattle.model.proofs.records.skip_calendar.Goals as goal

pub returns : goal.returns
unfolding calendar_parts dates day_of day_before
returns g c =
    let fields = c.skip_text-a.ensures ⨾ pass_flags 7 c.skip-b.ensures ⨾ c.skip_hours-c.ensures ⨾ c.skip_days-d.ensures ⨾ c.skip_days-e.ensures ⨾ c.skip_days.ensures in
    ended fields c.take_pad.ensures
